-- What is to be shown of one call so that it lifts no flag: of a setup record, of an arrival and of a clear.
use Rattle.std.specs.Prelude.{ℕ, ◌<◌, Bool, true, false, ◌&&◌, List, ◌≢◌, ◌≡◌, eqb, Ok}
use Rattle.std.proofs.Common.{sym, ap, ◌∙◌, arith, eq-eqb}
use Rattle.std.proofs.Math.Decide.{ℕ_discrete}
use mir.Val.{bool_byte}
use Rattle.sizes.specs.Meaning.{filter_count, gate_count}
use Rattle.record.specs.declared.Record.{Record}
use Rattle.record.specs.declared.ArrivalRecord.{ArrivalRecord}
use Rattle.record.specs.declared.ClearRecord.{ClearRecord}
use Rattle.record.specs.Meaning.{Reading}
use Rattle.record.proofs.Sorts.{Setup, Sort, setup, arrival, clear, sort_of}
use Rattle.record.proofs.Ranges.{read_ranges}
use Rattle.bank.specs.Meaning.{Rows, with_row, word, is_set}
use Rattle.bank.proofs.Rows.{row_same, row_other}
use Rattle.bank.proofs.Laws.{is_set_back}
use Rattle.filter.specs.declared.Filter.{Filter}
use Rattle.filter.specs.Meaning.{Found}
use Rattle.filter.specs.Meaning.{row_of}
use Rattle.verdict.specs.Meaning.{Verdict}
use Rattle.verdict.specs.Meaning.{Taken}
use Rattle.setup.specs.Meaning.{clear_of}
use Rattle.stage.specs.Meaning.{Bridge, Took, taken_of, started_of, take_of}
use Rattle.promises.specs.Meaning.{Call, reading_of, event_of}
use Rattle.promises.proofs.Refusals.Keeps.{answered_verdict}
use Rattle.promises.proofs.Ways.{Called, unread, read, called_way}
use Rattle.promises.specs.Flags.Meaning.{taken_in, clear_in, clear_by, clears}
use Rattle.path.specs.Meaning.{arrival_of}
use Rattle.record.specs.declared.Record.TheVariants as kind

-- ---- a flag is a word of a row

abbrev pub stands : ℕ → Rows → ℕ → Type 0
stands k s q = is_set (word (s q) k) ≡ true

-- a store lifts no flag if it doesn't in its own row
pub flag_written : (k : ℕ) (s : Rows) (q r : ℕ) (vs : List ℕ) → (stands k s r → is_set (word vs k) ≡ true) → stands k s q → stands k (with_row s r vs) q
flag_written k s q r vs own h = at_row (ℕ_discrete q r)
  where
    at_row : Dec (q ≡ r) → stands k (with_row s r vs) q
    at_row (yes e) = ap (λ (p : ℕ). is_set (word (with_row s r vs p) k)) e ∙ ap (λ (row : List ℕ). is_set (word row k)) (row_same s r vs) ∙ own (ap (λ (p : ℕ). is_set (word (s p) k)) (sym e) ∙ h)
    at_row (no n) = ap (λ (row : List ℕ). is_set (word row k)) (row_other s r vs q n) ∙ h

pub kept_row : (k : ℕ) (s t : Rows) (q : ℕ) → t q ≡ s q → stands k s q → stands k t q
kept_row k s t q e h = ap (λ (row : List ℕ). is_set (word row k)) e ∙ h

-- a store into another row
pub away : (k : ℕ) (s : Rows) (q r : ℕ) (vs : List ℕ) → q ≢ r → stands k s q → stands k (with_row s r vs) q
away k s q r vs n h = kept_row k s (with_row s r vs) q (row_other s r vs q n) h

pub raised : (b : Bool) → b ≡ true → is_set (bool_byte b) ≡ true
raised b e = is_set_back b ∙ e

-- ---- a clear

-- what is known of a clear that isn't one of this flag and id
abbrev pub Spares : ℕ → ℕ → ClearRecord → Verdict → Type 0
Spares flag i r v = (clear_in flag i (kind.Clear r) && taken_in v) ≡ false

pub other_id : (flag i : ℕ) (r : ClearRecord) → r.flag ≡ flag → Spares flag i r Taken → r.id ≢ i
other_id flag i r e h q = by_test (eqb r.flag flag) (eqb r.id i) (eq-eqb _ _ e) (eq-eqb _ _ q) h
  where
    by_test : (a b : Bool) → a ≡ true → b ≡ true → ((a && b) && true) ≡ false → ⊥
    by_test true true p q e' = let z : ◌≡◌ {A = ℕ} 0 1 = cc in omega arith
    by_test true false p q e' = let z : ◌≡◌ {A = ℕ} 0 1 = cc in omega arith
    by_test false b p q e' = let z : ◌≡◌ {A = ℕ} 0 1 = cc in omega arith

-- ---- one call, for any flag: what is to be shown of a setup record, of an arrival and of a clear

module _ (b : Bridge) (c : Call) (S : Rows → Type 0) (flag i : ℕ) (now : S b.bank) where
  module _ (setups : (r : Record) (used : ℕ) → Setup r → S (taken_of b c r used).after.bank)
      (arrivals : (a : ArrivalRecord) (found : Found) → S (arrival_of b.bank b.lists a found).bank)
      (cleared : (r : ClearRecord) (row : Filter) → r.id < filter_count → (r.flag ≢ 1 → r.id < gate_count) → Spares flag i r (clear_of b.bank r row).verdict → S (clear_of b.bank r row).bank) where
    sorted : (r : Record) (used : ℕ) → reading_of b c ≡ Ok (r, used) → Sort r → clear_by flag i (Ok (r, used)) (taken_of b c r used).answer.verdict ≡ false → S (taken_of b c r used).after.bank
    unfolding taken_of
    sorted r used e (setup h) k = setups r used h
    sorted r used e (arrival a) k = arrivals a _
    sorted r used e (clear x) k =
        let ids = read_ranges c (started_of b.bank) (kind.Clear x) used e in
        cleared x (row_of b.table x.id) (omega (arith, ids.3)) (λ n. omega (arith, ids.4 n)) (ap (λ (v : Verdict). clear_in flag i (kind.Clear x) && taken_in v) (sym (answered_verdict used (clear_of b.bank x (row_of b.table x.id)).verdict)) ∙ k)

    called : (o : Took) → Called b c o → clear_by flag i (reading_of b c) o.answer.verdict ≡ false → S o.after.bank
    called o (unread why) k = now
    called o (read r used full e) k = sorted r used e (sort_of r) (ap (λ (rd : Reading). clear_by flag i rd (taken_of b c r used).answer.verdict) (sym e) ∙ k)

    pub one_call : clears flag i (event_of b c) ≡ false → S (take_of b c).after.bank
    one_call = called (take_of b c) (called_way b c)
