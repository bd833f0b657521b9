-- The fresh bridge is memory of zeros: what a C program clears before its first call (include/transomrib.h), and what the programs begin with. So
-- every theorem from `fresh` is one about the bridge that those begin with.
use Rattle.std.specs.Prelude.{ℕ, zero, suc, ◌+◌, ◌*◌, List, ◌≡◌, refl, get_or}
use Rattle.std.proofs.Common.{ap, subst}
use Rattle.std.proofs.Math.Path.{fun_ext}
use Rattle.sizes.specs.Meaning.{filter_count, lists_octets, row_words}
use Rattle.bank.specs.Meaning.{Rows, bank_words, load, rows_in, rows_of}
use Rattle.filter.specs.Meaning.{no_row}
use Rattle.verdict.specs.Meaning.{Answer}
use Rattle.stage.specs.Meaning.{Bridge, bridge}
use Rattle.promises.specs.Meaning.{Call, run_of, answers_of, repeated, no_words, fresh, History}
use Rattle.promises.proofs.Single.{history_is_run}

-- a word of zeros is 0, and so is every word past their end
zero_word : (n i : ℕ) → ◌≡◌ {A = ℕ} (get_or (repeated 0 n) i 0) 0
zero_word zero i = refl
zero_word (suc n) zero = refl
zero_word (suc n) (suc i) = zero_word n i

zero_load : (n a k m : ℕ) → load (repeated 0 n) a k m ≡ repeated 0 m
zero_load n a k zero = refl
zero_load n a k (suc m) = cc (zero_word n (a + k), zero_load n a (suc k) m)

zero_rows : (n : ℕ) → rows_in (repeated 0 n) ≡ no_words
zero_rows n = fun_ext (λ r. zero_load n (r * row_words) 0 row_words)

-- `filter_count` rows whose every field is 0, `bank_words` words and `lists_octets` octets that are 0
abbrev pub zeros : Bridge
zeros = bridge (repeated no_row filter_count) (rows_of (record { words = repeated 0 bank_words })) (repeated 0 lists_octets)

pub fresh_is_zeros : zeros ≡ fresh
unfolding fresh
fresh_is_zeros = ap (λ (s : Rows). bridge (repeated no_row filter_count) s (repeated 0 lists_octets)) (zero_rows bank_words)

-- calls one after another on such memory, each of which meets the contract, are the history from fresh
pub history_from_zeros : {b' : Bridge} {cs : List Call} {answers : List Answer} → History zeros cs answers b' → (b' ≡ run_of fresh cs) × (answers ≡ answers_of fresh cs)
history_from_zeros {b' = b'} {cs = cs} {answers = answers} h = history_is_run (subst (λ (b : Bridge). History b cs answers b') fresh_is_zeros h)
