-- One call on two bridges.
use Rattle.std.specs.Prelude.{ℕ, Bool, true, false, List, ◌≡◌, eqb, length, Ok, Err}
use Rattle.std.proofs.Math.Path.{refl}
use Rattle.std.proofs.Common.{sym, ap, subst, ◌∙◌, arith, eqb-true}
use Rattle.sizes.specs.Meaning.{filter_count}
use Rattle.record.specs.declared.Record.{Record}
use Rattle.record.specs.declared.Record.TheVariants as kind
use Rattle.record.specs.declared.Refusal.{Refusal}
use Rattle.record.specs.declared.Refusal.TheVariants.{TableLength}
use Rattle.record.specs.Meaning.{Reading}
use Rattle.record.specs.Meaning.{read_of}
use Rattle.record.proofs.Sorts.{Sort, setup, arrival, clear, sort_of}
use Rattle.record.proofs.Laws.{read_in_turn, read_setup}
use Rattle.record.proofs.Ranges.{read_ranges}
use Rattle.bank.specs.Meaning.{Rows, is_set, word, scheduler_row}
use Rattle.stage.specs.Meaning.{Bridge, Took, bridge, refused_of, read_by, key_of, taken_of, started_of, take_of}
use Rattle.promises.specs.Bursts.Meaning.{match_of, Framed, same, Eight}
use Rattle.promises.proofs.Bursts.Pairs.{apart, near_apart, with_constants, constants_in}
use Rattle.promises.proofs.Bursts.Found.{fits_both}
use Rattle.promises.proofs.Bursts.Early.{early_kept, early_checked}
use Rattle.promises.proofs.Bursts.Later.{Strong, Follows, clear_ahead, arrival_ahead}
use Rattle.promises.proofs.Bursts.Loose.{Weak, Loose, clear_loose, arrival_loose}

module _ (b : Bridge) (c : List ℕ) where
  pub take_table : eqb (length b.table) filter_count ≡ false → take_of b c ≡ refused_of b TableLength
  unfolding take_of
  take_table e = rw e refl

  pub take_refused : (why : Refusal) → eqb (length b.table) filter_count ≡ true → read_of c (started_of b.bank) ≡ Err why → take_of b c ≡ refused_of b why
  unfolding take_of read_by
  take_refused why e h = rw (e, h) refl

  pub take_taken : (r : Record) (used : ℕ) → eqb (length b.table) filter_count ≡ true → read_of c (started_of b.bank) ≡ Ok (r, used) → take_of b c ≡ taken_of b c r used
  unfolding take_of read_by
  take_taken r used e h = rw (e, h) refl

abbrev started_after : Took → Bool
started_after o = started_of o.after.bank

-- ---- near bridges

module _ (g : ℕ) (b : Bridge) (s' : Rows) (strong : Strong g b (bridge b.table s' b.lists)) (c : List ℕ) where
  abbrev b' : Bridge
  b' = bridge b.table s' b.lists

  abbrev Goal : Type 0
  Goal = started_after (take_of b c) ≡ started_after (take_of b' c) → (Framed g b c → Eight (take_of b c).answer.verdict → ⊥) → Follows g (take_of b c) (take_of b' c)

  same_start : started_of b.bank ≡ started_of s'
  same_start = ap (λ (u : List ℕ). is_set (word u 0)) ((strong.banks 0).outer ((λ h. absurd (omega (arith, h))), omega arith))

  refused_ahead : (why : Refusal) → take_of b c ≡ refused_of b why → take_of b' c ≡ refused_of b' why → Goal
  refused_ahead why e e' _ _ = rw (e, e') (record { used = refl; verdicts = same refl; after = strong })

  module _ (whole : eqb (length b.table) filter_count ≡ true) where
    by_sort : (r : Record) (used : ℕ) → read_of c (started_of b.bank) ≡ Ok (r, used) → Sort r → Goal
    by_sort r used e (setup h) together spared =
        let st = read_setup c (started_of b.bank) r used e h in
        let is = take_taken b c r used whole e in
        let is' = take_taken b' c r used whole (ap (read_of c) (sym same_start) ∙ e) in
        let kept = early_kept g b s' strong.banks c st r used h (read_ranges c (started_of b.bank) r used e) (sym (ap started_after is) ∙ together ∙ ap started_after is') in
        rw (is, is')
        (record {
          used = ap (λ x. x.used) kept.answers;
          verdicts = same (ap (λ x. x.verdict) kept.answers);
          after = record { tables = kept.tables; lists = kept.lists; banks = kept.banks; checked = early_checked b c (eqb-true _ _ whole) st r used h };
        })
    by_sort r used e (arrival a) together spared =
        let st = read_in_turn c (started_of b.bank) (kind.Arrival a) used e in
        let is = take_taken b c r used whole e in
        let is' = take_taken b' c r used whole (ap (read_of c) (sym same_start) ∙ e) in
        rw (is, is')
        (arrival_ahead g b s' strong.banks (strong.checked st) c used a
        (λ h k. spared (record { frame = a; used = used; reads = e; grouped = h }) (ap (λ (o : Took). o.answer.verdict) is ∙ k)))
    by_sort r used e (clear x) together spared =
        let st = read_in_turn c (started_of b.bank) (kind.Clear x) used e in
        let is = take_taken b c r used whole e in
        let is' = take_taken b' c r used whole (ap (read_of c) (sym same_start) ∙ e) in
        rw (is, is') (clear_ahead g b s' strong.banks (strong.checked st) c used x)

    by_reading : (rd : Reading) → read_of c (started_of b.bank) ≡ rd → Goal
    by_reading (Err why) e = refused_ahead why (take_refused b c why whole e) (take_refused b' c why whole (ap (read_of c) (sym same_start) ∙ e))
    by_reading (Ok (r, used)) e = by_sort r used e (sort_of r)

  call_core : Goal
  call_core = by_table (eqb (length b.table) filter_count) refl
    where
      by_table : (t : Bool) → eqb (length b.table) filter_count ≡ t → Goal
      by_table true e = by_reading e (read_of c (started_of b.bank)) refl
      by_table false e = refused_ahead TableLength (take_table b c e) (take_table b' c e)

  -- a frame of the group in the second is one in the first
  framed_core : Framed g b' c → Framed g b c
  framed_core f =
      let started = read_in_turn c (started_of s') (kind.Arrival f.frame) f.used f.reads in
      let found : match_of b f.frame ≡ match_of b' f.frame
      = fits_both (constants_in b.bank) g b.bank s' (with_constants apart g b.bank s' (near_apart g b.bank s' strong.banks)) b.table (key_of f.frame) (strong.checked (same_start ∙ started)) in
      record {
        frame = f.frame;
        used = f.used;
        reads = ap (read_of c) same_start ∙ f.reads;
        grouped = record {
          place = f.grouped.place;
          row = f.grouped.row;
          matched = found ∙ f.grouped.matched;
          scheduled = f.grouped.scheduled;
          in_group = (strong.banks (scheduler_row f.grouped.row.scheduler)).named (omega arith) ∙ f.grouped.in_group;
        };
      }

rebuilt : (b b' : Bridge) → b.table ≡ b'.table → b.lists ≡ b'.lists → bridge b.table b'.bank b.lists ≡ b'
rebuilt b b' t l = λ k. record { table = t k; bank = b'.bank; lists = l k }

pub call_ahead : (g : ℕ) (b b' : Bridge) → Strong g b b' → (c : List ℕ) → started_after (take_of b c) ≡ started_after (take_of b' c) → (Framed g b c → Eight (take_of b c).answer.verdict → ⊥) → Follows g (take_of b c) (take_of b' c)
call_ahead g b b' strong c =
    subst (λ (y : Bridge). started_after (take_of b c) ≡ started_after (take_of y c) → (Framed g b c → Eight (take_of b c).answer.verdict → ⊥) → Follows g (take_of b c) (take_of y c)) (rebuilt b b' strong.tables strong.lists)
    (call_core g b b'.bank (record { tables = refl; lists = refl; banks = strong.banks; checked = strong.checked }) c)

pub framed_back : (g : ℕ) (b b' : Bridge) → Strong g b b' → (c : List ℕ) → Framed g b' c → Framed g b c
framed_back g b b' strong c =
    subst (λ (y : Bridge). Framed g y c → Framed g b c) (rebuilt b b' strong.tables strong.lists)
    (framed_core g b b'.bank (record { tables = refl; lists = refl; banks = strong.banks; checked = strong.checked }) c)

-- ---- bridges that are equal outside the group

module _ (g : ℕ) (b : Bridge) (s' : Rows) (weak : Weak g b (bridge b.table s' b.lists)) (c : List ℕ) where
  abbrev second : Bridge
  second = bridge b.table s' b.lists

  abbrev Wanted : Type 0
  Wanted = started_after (take_of b c) ≡ started_after (take_of second c) → Loose g (Framed g b c) (take_of b c) (take_of second c)

  start_same : started_of b.bank ≡ started_of s'
  start_same = ap (λ (u : List ℕ). is_set (word u 0)) ((weak.banks 0).outer ((λ h. absurd (omega (arith, h))), omega arith))

  refused_loose : (why : Refusal) → take_of b c ≡ refused_of b why → take_of second c ≡ refused_of second why → Wanted
  refused_loose why e e' _ = rw (e, e') (record { answers = λ _. refl; after = weak })

  module _ (whole : eqb (length b.table) filter_count ≡ true) where
    loose_sort : (r : Record) (used : ℕ) → read_of c (started_of b.bank) ≡ Ok (r, used) → Sort r → Wanted
    loose_sort r used e (setup h) together =
        let st = read_setup c (started_of b.bank) r used e h in
        let is = take_taken b c r used whole e in
        let is' = take_taken second c r used whole (ap (read_of c) (sym start_same) ∙ e) in
        let kept = early_kept g b s' (weak.near st) c st r used h (read_ranges c (started_of b.bank) r used e) (sym (ap started_after is) ∙ together ∙ ap started_after is') in
        rw (is, is')
        (record {
          answers = λ _. kept.answers;
          after = record { tables = kept.tables; lists = kept.lists; near = λ _. kept.banks; banks = near_apart g _ _ kept.banks; checked = early_checked b c (eqb-true _ _ whole) st r used h };
        })
    loose_sort r used e (arrival a) together =
        let st = read_in_turn c (started_of b.bank) (kind.Arrival a) used e in
        let is = take_taken b c r used whole e in
        let is' = take_taken second c r used whole (ap (read_of c) (sym start_same) ∙ e) in
        let h = arrival_loose g b s' weak.banks st (weak.checked st) c used a in
        rw (is, is') (record { answers = λ n. h.answers (λ k. n (record { frame = a; used = used; reads = e; grouped = k })); after = h.after })
    loose_sort r used e (clear x) together =
        let st = read_in_turn c (started_of b.bank) (kind.Clear x) used e in
        let is = take_taken b c r used whole e in
        let is' = take_taken second c r used whole (ap (read_of c) (sym start_same) ∙ e) in
        rw (is, is') (clear_loose g b s' weak.banks st (weak.checked st) c used (Framed g b c) x)

    loose_reading : (rd : Reading) → read_of c (started_of b.bank) ≡ rd → Wanted
    loose_reading (Err why) e = refused_loose why (take_refused b c why whole e) (take_refused second c why whole (ap (read_of c) (sym start_same) ∙ e))
    loose_reading (Ok (r, used)) e = loose_sort r used e (sort_of r)

  loose_core : Wanted
  loose_core = by_table (eqb (length b.table) filter_count) refl
    where
      by_table : (t : Bool) → eqb (length b.table) filter_count ≡ t → Wanted
      by_table true e = loose_reading e (read_of c (started_of b.bank)) refl
      by_table false e = refused_loose TableLength (take_table b c e) (take_table second c e)

  -- a frame of the group in the first is one in the second
  framed_second : Framed g b c → Framed g second c
  framed_second f =
      let started = read_in_turn c (started_of b.bank) (kind.Arrival f.frame) f.used f.reads in
      let found : match_of b f.frame ≡ match_of second f.frame
      = fits_both (constants_in b.bank) g b.bank s' (with_constants apart g b.bank s' weak.banks) b.table (key_of f.frame) (weak.checked started) in
      record {
        frame = f.frame;
        used = f.used;
        reads = ap (read_of c) (sym start_same) ∙ f.reads;
        grouped = record {
          place = f.grouped.place;
          row = f.grouped.row;
          matched = sym found ∙ f.grouped.matched;
          scheduled = f.grouped.scheduled;
          in_group = sym ((weak.banks (scheduler_row f.grouped.row.scheduler)).named (omega arith)) ∙ f.grouped.in_group;
        };
      }

pub call_loose : (g : ℕ) (b b' : Bridge) → Weak g b b' → (c : List ℕ) → started_after (take_of b c) ≡ started_after (take_of b' c) → Loose g (Framed g b c) (take_of b c) (take_of b' c)
call_loose g b b' weak c =
    subst (λ (y : Bridge). started_after (take_of b c) ≡ started_after (take_of y c) → Loose g (Framed g b c) (take_of b c) (take_of y c)) (rebuilt b b' weak.tables weak.lists)
    (loose_core g b b'.bank (record { tables = refl; lists = refl; near = weak.near; banks = weak.banks; checked = weak.checked }) c)

pub framed_on : (g : ℕ) (b b' : Bridge) → Weak g b b' → (c : List ℕ) → Framed g b c → Framed g b' c
framed_on g b b' weak c =
    subst (λ (y : Bridge). Framed g b c → Framed g y c) (rebuilt b b' weak.tables weak.lists)
    (framed_second g b b'.bank (record { tables = refl; lists = refl; near = weak.near; banks = weak.banks; checked = weak.checked }) c)
