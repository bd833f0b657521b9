-- Kind 2: the row of a filter record that is read is a filter, so that a second record of that filter is refused with 5.
use Rattle.std.specs.Prelude.{ℕ, ◌≤◌, Bool, true, cond, ◌||◌, List, ◌⊎◌, ◌≡◌, eqb, leb, length, set, Ok}
use Rattle.std.proofs.Common.{⊎_elim, sym, ap, subst, ◌∙◌, arith, eq-eqb, le-leb, length-set, get_or-set_same}
use Rattle.std.proofs.lemmas.Bool.{eqb-false}
use Rattle.sizes.specs.Meaning.{filter_count, last_gate, last_meter, last_scheduler}
use Rattle.logic.specs.Laws.{by_test, contrary, if_by}
use Rattle.record.specs.declared.FilterRecord.{FilterRecord}
use Rattle.record.specs.declared.Refusal.TheVariants.{SetUpAlready}
use Rattle.record.specs.Meaning.{read_of}
use Rattle.record.proofs.Ranges.{read_ranges}
use Rattle.filter.specs.Meaning.{no_row, row_in_range, is_filter_of, row_of}
use Rattle.verdict.specs.Meaning.{Taken}
use Rattle.stage.specs.Meaning.{Bridge, Took, took, answered, refused_of, filter_of, taken_of, read_by, started_of, take_of}
use Rattle.promises.specs.Meaning.{Call, reading_of}
use Rattle.promises.proofs.Past.Agrees.{InRange}
use Rattle.record.specs.declared.Record.TheVariants as kind

none_or : (n m : ℕ) → (n ≤ m) ⊎ (n ≡ 255) → (leb n m || eqb n 255) ≡ true
none_or n m h = by_test (leb n m) (λ t. rw t) (λ t. rw t (⊎_elim (λ l. contrary (leb n m) (le-leb n m l) t) (λ e. eq-eqb n 255 e) h))

pub filter_ranged : (x : FilterRecord) → InRange (kind.Filter x) → is_filter_of (filter_of x) ≡ true
unfolding is_filter_of row_in_range
filter_ranged x ranged =
    let h = ranged.ranges in
    rw (
      le-leb x.any_handle 1 h.2,
      any_or x.any_handle x.handle h.2 h.3,
      le-leb x.priority 8 h.4,
      le-leb x.gate last_gate h.5,
      le-leb x.max_sdu 2000 h.6,
      le-leb x.oversize_block 1 h.7,
      none_or x.meter last_meter h.8,
      none_or x.scheduler last_scheduler h.9,
    )
  where
    any_or : (all handle : ℕ) → all ≤ 1 → (all ≡ 1 → handle ≡ 0) → (eqb all 0 || eqb handle 0) ≡ true
    any_or all handle low zero-then = by_test (eqb all 0) (λ t. rw t) (λ t. rw t (eq-eqb handle 0 (zero-then (omega (arith, low, eqb-false all 0 t)))))

pub filter_read : (c : List ℕ) (started : Bool) (x : FilterRecord) (used : ℕ) → read_of c started ≡ Ok (kind.Filter x, used) → is_filter_of (filter_of x) ≡ true
filter_read c started x used said = filter_ranged x (record { used = used; ranges = read_ranges c started (kind.Filter x) used said })

-- ---- the second record of a filter

module _ (b : Bridge) (full : length b.table ≡ filter_count) (c : Call) (x : FilterRecord) (used : ℕ) (said : reading_of b c ≡ Ok (kind.Filter x, used)) where
  takes : take_of b c ≡ cond (is_filter_of (row_of b.table x.id)) (refused_of b SetUpAlready) (took (set b.table x.id (filter_of x)) b.bank b.lists (answered used Taken))
  unfolding take_of read_by taken_of
  takes = rw (eq-eqb (length b.table) filter_count full, said)

  -- at a place that isn't empty: 5
  pub set_up_already : is_filter_of (row_of b.table x.id) ≡ true → take_of b c ≡ refused_of b SetUpAlready
  set_up_already there = takes ∙ ap (λ (t : Bool). cond t (refused_of b SetUpAlready) (took (set b.table x.id (filter_of x)) b.bank b.lists (answered used Taken))) there

  -- whatever the first record is answered, the place is then not empty
  abbrev Placed : Took → Type 0
  Placed o = (length o.after.table ≡ filter_count) × (is_filter_of (row_of o.after.table x.id) ≡ true)

  placed : Placed (take_of b c)
  placed =
      subst Placed (sym takes)
      (if_by Placed (is_filter_of (row_of b.table x.id)) _ _ (λ e. (full, e))
      (λ e.
      let ranged = read_ranges c (started_of b.bank) (kind.Filter x) used said in (
        length-set b.table x.id (filter_of x) ∙ full,
        ap is_filter_of (get_or-set_same b.table x.id (filter_of x) no_row (omega (arith, full, ranged))) ∙ filter_read c (started_of b.bank) x used said,
      )))

pub second_refused : (b : Bridge) → length b.table ≡ filter_count → (c c' : Call) (x x' : FilterRecord) (used used' : ℕ) → x'.id ≡ x.id → reading_of b c ≡ Ok (kind.Filter x, used) → reading_of (take_of b c).after c' ≡ Ok (kind.Filter x', used')
    → take_of (take_of b c).after c' ≡ refused_of (take_of b c).after SetUpAlready
second_refused b full c c' x x' used used' same said said' =
    let there = placed b full c x used said in
    set_up_already (take_of b c).after there.0 c' x' used' said' (ap (λ (i : ℕ). is_filter_of (row_of (take_of b c).after.table i)) same ∙ there.1)
