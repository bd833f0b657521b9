-- An arrival or a clear on two bridges, after the first took its start.
use Rattle.std.specs.Prelude.{ℕ, true, List, ◌≡◌, refl, None, Some}
use Rattle.std.proofs.lemmas.Option.{some_pair_parts}
use Rattle.std.proofs.Common.{sym, ap, ◌∙◌, arith}
use Rattle.std.proofs.Math.Path.{subst}
use Rattle.std.proofs.Math.Decide.{ℕ_discrete}
use Rattle.record.specs.declared.Record.TheVariants as kind
use Rattle.record.specs.declared.ArrivalRecord.{ArrivalRecord}
use Rattle.record.specs.declared.ClearRecord.{ClearRecord}
use Rattle.bank.specs.Meaning.{Rows, scheduler_group}
use Rattle.filter.specs.declared.Filter.{Filter}
use Rattle.filter.specs.Meaning.{Found}
use Rattle.filter.specs.Meaning.{row_of}
use Rattle.verdict.specs.Meaning.{Verdict}
use Rattle.verdict.specs.Meaning.{Refused, Taken, Passed, Dropped}
use Rattle.verdict.specs.Meaning.{Told}
use Rattle.path.specs.Meaning.{arrival_of}
use Rattle.stage.specs.Meaning.{Bridge, Took, bridge, answered, bank_took, key_of, taken_of, started_of}
use Rattle.promises.specs.Bursts.Meaning.{match_of, Grouped, NotLater, same, earlier, Eight}
use Rattle.promises.proofs.Bursts.Pairs.{Asked, Constants, Over, near, apart, Near, near_apart, with_constants, constants_in}
use Rattle.promises.proofs.Bursts.Found.{Checked, counts_both, fits_both, checked_fixed}
use Rattle.promises.proofs.Bursts.Outside.{Fair, Alike, arrival_outside, arrival_unmatched}
use Rattle.promises.proofs.Bursts.Inside.{near_fair, Leads, Unless, arrival_near}
use Rattle.promises.proofs.Bursts.Clears.{clear_both}

pub is_grouped : (g : ℕ) (b : Bridge) (a : ArrivalRecord) → Dec (Grouped g b a)
is_grouped g b a = by_match (match_of b a) refl
  where
    by_tests : (i : ℕ) (row : Filter) → match_of b a ≡ Some (i, row) → Dec (row.scheduler ≡ 255) → Dec (scheduler_group b.bank row.scheduler ≡ g) → Dec (Grouped g b a)
    by_tests i row e (yes p) d = no (λ h. h.scheduled (let same_row : h.row ≡ row = sym (some_pair_parts i h.place row h.row (sym e ∙ h.matched)).1 in ap (λ (f : Filter). f.scheduler) same_row ∙ p))
    by_tests i row e (no p) (no q) = no (λ h. q (let same_row : row ≡ h.row = (some_pair_parts i h.place row h.row (sym e ∙ h.matched)).1 in ap (λ (f : Filter). scheduler_group b.bank f.scheduler) same_row ∙ h.in_group))
    by_tests i row e (no p) (yes q) = yes (record { place = i; row = row; matched = e; scheduled = p; in_group = q })

    by_match : (f : Found) → match_of b a ≡ f → Dec (Grouped g b a)
    by_match None e = no (λ h. let z : ◌≡◌ {A = ℕ} 0 1 = cc in omega arith)
    by_match (Some (i, row)) e = by_tests i row e (ℕ_discrete row.scheduler 255) (ℕ_discrete (scheduler_group b.bank row.scheduler) g)

module _ (k : Asked) (fair : Fair k) (g : ℕ) (b : Bridge) (s' : Rows) (o : Over k (constants_in b.bank) g b.bank s') (a : ArrivalRecord) where
  pub outside_alike : (Grouped g b a → ⊥) → Alike k (constants_in b.bank) g (arrival_of b.bank b.lists a (match_of b a)) (arrival_of s' b.lists a (match_of b a))
  outside_alike out = by_match (match_of b a) refl
    where
      by_match : (f : Found) → match_of b a ≡ f → Alike k (constants_in b.bank) g (arrival_of b.bank b.lists a f) (arrival_of s' b.lists a f)
      by_match None e = arrival_unmatched k (constants_in b.bank) g a b.bank s' o b.lists
      by_match (Some (i, row)) e =
          arrival_outside k fair (constants_in b.bank) g a row (λ some in_group. out (record { place = i; row = row; matched = e; scheduled = some; in_group = in_group })) b.bank s' o b.lists i

-- ---- answers

pub answered_verdict : (used : ℕ) (v : Verdict) → (answered used v).verdict ≡ v
answered_verdict used (Refused r) = refl
answered_verdict used Taken = refl
answered_verdict used (Passed p) = refl
answered_verdict used (Dropped d) = refl

sooner_used : (used : ℕ) (v v' : Verdict) → NotLater v v' → (answered used v).used ≡ (answered used v').used
sooner_used used v v' (same e) = ap (λ (w : Verdict). (answered used w).used) e
sooner_used used v v' (earlier p at t h) = refl

sooner_answered : (used : ℕ) (v v' : Verdict) → NotLater v v' → NotLater (answered used v).verdict (answered used v').verdict
sooner_answered used v v' h = rw (answered_verdict used v, answered_verdict used v') h

-- ---- near bridges: the same answer, or a time that is no later

pub record Strong (g : ℕ) (b b' : Bridge) : Type 0 where
  pub tables : b.table ≡ b'.table
  pub lists : b.lists ≡ b'.lists
  pub banks : Near g b.bank b'.bank
  pub checked : started_of b.bank ≡ true → Checked b.table b.bank

pub record Follows (g : ℕ) (o o' : Took) : Type 0 where
  pub used : o.answer.used ≡ o'.answer.used
  pub verdicts : NotLater o.answer.verdict o'.answer.verdict
  pub after : Strong g o.after o'.after

module _ (g : ℕ) (b : Bridge) (s' : Rows) (near-banks : Near g b.bank s') (checked : Checked b.table b.bank) (input : List ℕ) (used : ℕ) where
  abbrev b' : Bridge
  b' = bridge b.table s' b.lists

  abbrev z : Constants
  z = constants_in b.bank

  over : Over near z g b.bank s'
  over = with_constants near g b.bank s' near-banks

  over_apart : Over apart z g b.bank s'
  over_apart = with_constants apart g b.bank s' (near_apart g b.bank s' near-banks)

  told_ahead : (t t' : Told) → Leads near z g t t' → Follows g (bank_took b used t) (bank_took b' used t')
  told_ahead t t' l = record {
    used = sooner_used used t.verdict t'.verdict l.verdicts;
    verdicts = sooner_answered used t.verdict t'.verdict l.verdicts;
    after = record {
      tables = refl;
      lists = refl;
      banks = λ q. (l.banks q).pair;
      checked = λ _. checked_fixed z b.table b.bank t.bank (λ q. (over q).fixed) (λ q. (l.banks q).fixed) checked;
    };
  }

  pub clear_ahead : (r : ClearRecord) → Follows g (taken_of b input (kind.Clear r) used) (taken_of b' input (kind.Clear r) used)
  unfolding taken_of
  clear_ahead r =
      let h = clear_both near z g b.bank s' over r (row_of b.table r.id) (counts_both z g b.bank s' over_apart (row_of b.table r.id) (checked r.id)) in
      told_ahead _ _ (record { verdicts = same h.verdicts; banks = h.banks })

  frame_leads : (a : ArrivalRecord) → (Grouped g b a → Eight (arrival_of b.bank b.lists a (match_of b a)).verdict → ⊥) → Dec (Grouped g b a)
      → Leads near z g (arrival_of b.bank b.lists a (match_of b a)) (arrival_of s' b.lists a (match_of b a))
  frame_leads a spared (yes h) =
      subst (λ (f : Found). Unless near z g (arrival_of b.bank b.lists a f) (arrival_of s' b.lists a f)) (sym h.matched) (arrival_near z g a h.row h.scheduled h.in_group b.bank s' over b.lists h.place) (spared h)
  frame_leads a spared (no n) = let h = outside_alike near near_fair g b s' over a n in record { verdicts = same h.verdicts; banks = h.banks }

  pub arrival_ahead : (a : ArrivalRecord) → (Grouped g b a → Eight (taken_of b input (kind.Arrival a) used).answer.verdict → ⊥) → Follows g (taken_of b input (kind.Arrival a) used) (taken_of b' input (kind.Arrival a) used)
  unfolding taken_of
  arrival_ahead a spared =
      subst (λ (f : Found). Follows g (bank_took b used (arrival_of b.bank b.lists a (match_of b a))) (bank_took b' used (arrival_of s' b.lists a f)))
      (fits_both z g b.bank s' over_apart b.table (key_of a) checked)
      (told_ahead _ _ (frame_leads a (λ h e. spared h (answered_verdict used _ ∙ e)) (is_grouped g b a)))
