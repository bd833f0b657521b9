-- An arrival or a clear on two bridges that are equal outside the group, whatever either has dropped: frames outside it get one answer.
use Rattle.std.specs.Prelude.{ℕ, true, false, List, ◌≡◌, refl}
use Rattle.std.proofs.Common.{true≢false, sym, ◌∙◌, arith}
use Rattle.std.proofs.Math.Path.{ap, subst}
use Rattle.record.specs.declared.Record.TheVariants as kind
use Rattle.record.specs.declared.ArrivalRecord.{ArrivalRecord}
use Rattle.record.specs.declared.ClearRecord.{ClearRecord}
use Rattle.bank.specs.Meaning.{Rows, is_set}
use Rattle.filter.specs.Meaning.{Found}
use Rattle.filter.specs.Meaning.{row_of}
use Rattle.path.specs.Meaning.{arrival_of}
use Rattle.stage.specs.Meaning.{Bridge, Took, bridge, answered, bank_took, key_of, taken_of, started_of}
use Rattle.promises.specs.Bursts.Meaning.{match_of, Grouped}
use Rattle.promises.proofs.Bursts.Pairs.{Constants, Over, apart, Near, Apart, with_constants, constants_in}
use Rattle.promises.proofs.Bursts.Found.{Checked, counts_both, fits_both, checked_fixed}
use Rattle.promises.proofs.Bursts.Inside.{apart_fair, arrival_apart}
use Rattle.promises.proofs.Bursts.Clears.{clear_both}
use Rattle.promises.proofs.Bursts.Later.{is_grouped, outside_alike}

-- before the start the two are near, too: no frame has come
pub record Weak (g : ℕ) (b b' : Bridge) : Type 0 where
  pub tables : b.table ≡ b'.table
  pub lists : b.lists ≡ b'.lists
  pub near : started_of b.bank ≡ false → Near g b.bank b'.bank
  pub banks : Apart g b.bank b'.bank
  pub checked : started_of b.bank ≡ true → Checked b.table b.bank

-- `Frame` says that the call is a frame of the group
pub record Loose (g : ℕ) (Frame : Type 0) (o o' : Took) : Type 0 where
  pub answers : (Frame → ⊥) → o.answer ≡ o'.answer
  pub after : Weak g o.after o'.after

module _ (g : ℕ) (b : Bridge) (s' : Rows) (apart-banks : Apart g b.bank s') (started : started_of b.bank ≡ true) (checked : Checked b.table b.bank) (input : List ℕ) (used : ℕ) where
  abbrev b' : Bridge
  b' = bridge b.table s' b.lists

  abbrev z : Constants
  z = constants_in b.bank

  over : Over apart z g b.bank s'
  over = with_constants apart g b.bank s' apart-banks

  bank_weak : (t t' : Rows) → Over apart z g t t' → Weak g (bridge b.table t b.lists) (bridge b.table t' b.lists)
  bank_weak t t' o = record {
    tables = refl;
    lists = refl;
    near = λ e. absurd (true≢false (sym started ∙ sym (ap is_set ((o 0).fixed.classes (omega arith))) ∙ e));
    banks = λ q. (o q).pair;
    checked = λ _. checked_fixed z b.table b.bank t (λ q. (over q).fixed) (λ q. (o q).fixed) checked;
  }

  pub clear_loose : (Frame : Type 0) (r : ClearRecord) → Loose g Frame (taken_of b input (kind.Clear r) used) (taken_of b' input (kind.Clear r) used)
  unfolding taken_of
  clear_loose Frame r =
      let h = clear_both apart z g b.bank s' over r (row_of b.table r.id) (counts_both z g b.bank s' over (row_of b.table r.id) (checked r.id)) in
      record { answers = λ _. ap (answered used) h.verdicts; after = bank_weak _ _ h.banks }

  frame_loose : (a : ArrivalRecord) → Dec (Grouped g b a)
      → Loose g (Grouped g b a) (bank_took b used (arrival_of b.bank b.lists a (match_of b a))) (bank_took b' used (arrival_of s' b.lists a (match_of b a)))
  frame_loose a (yes h) =
      let banks : Over apart z g (arrival_of b.bank b.lists a (match_of b a)).bank (arrival_of s' b.lists a (match_of b a)).bank
      = subst (λ (f : Found). Over apart z g (arrival_of b.bank b.lists a f).bank (arrival_of s' b.lists a f).bank) (sym h.matched) (arrival_apart z g a h.row h.scheduled h.in_group b.bank s' over b.lists h.place) in
      record { answers = λ n. absurd (n h); after = bank_weak _ _ banks }
  frame_loose a (no n) = let h = outside_alike apart apart_fair g b s' over a n in record { answers = λ _. ap (answered used) h.verdicts; after = bank_weak _ _ h.banks }

  pub arrival_loose : (a : ArrivalRecord) → Loose g (Grouped g b a) (taken_of b input (kind.Arrival a) used) (taken_of b' input (kind.Arrival a) used)
  unfolding taken_of
  arrival_loose a =
      subst (λ (f : Found). Loose g (Grouped g b a) (bank_took b used (arrival_of b.bank b.lists a (match_of b a))) (bank_took b' used (arrival_of s' b.lists a f)))
      (fits_both z g b.bank s' over b.table (key_of a) checked)
      (frame_loose a (is_grouped g b a))
