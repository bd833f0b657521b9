-- A piece takes a stream from one place to the next, and at its end the stream is what `Drains` says.
use Rattle.std.specs.Prelude.{◌≡◌, ℕ, ◌+◌, ◌-◌, ◌%◌, ◌^◌, ◌<◌, Bool, true, false, ◌&&◌, ◌||◌, Option, Some, None, Result, Ok, Err, is_some, is_ok, List, [], ◌++◌, length, take, drop, ◌==◌, nat_le, nat_lt, refl}
use Rattle.std.specs.Result.{result_err}
use Rattle.std.proofs.Common.{sym, ap, subst, ◌∙◌, arith, length-take, length-drop, length-append, eqb-true, le-ltb, leb-false}
use Rattle.std.proofs.Math.Seq.{take-append_seam}
use Rattle.logic.specs.Laws.{both, never}
use Rattle.sizes.specs.Meaning.{filter_count}
use Rattle.record.specs.declared.Refusal.{Refusal}
use Rattle.record.specs.declared.Refusal.TheVariants.{CutShort}
use Rattle.record.specs.Meaning.{refusal_number_of}
use Rattle.bank.specs.Meaning.{Rows}
use Rattle.filter.specs.declared.Filter.{Filter}
use Rattle.filter.specs.Meaning.{no_row}
use Rattle.verdict.specs.Meaning.{Refused}
use Rattle.stage.specs.Meaning.{Bridge, bridge, take_of}
use Rattle.text.specs.Meaning.{Page, page}
use Rattle.run.specs.declared.Progress.{Progress}
use Rattle.run.specs.Meaning.{fresh_progress_of, again_of, ran, piece_run_of}
use Rattle.run.specs.Input.Meaning.{Front, begins}
use Rattle.pieces.specs.declared.Failure.{Failure}
use Rattle.pieces.specs.Meaning.{Fills, Kept, kept_of}
use Rattle.pieces.proofs.Laws.{kept_stays}
use Rattle.promises.specs.Meaning.{repeated}
use Rattle.promises.specs.Pieces.Meaning.{RunIs, Stops, refused, full, used_up}
use Rattle.promises.proofs.Pieces.Theorem.{front_extends, front_follows}
use Rattle.promises.proofs.Pieces.Runs.{again_going, run_is_front, counted_on}
use Rattle.promises.proofs.Pieces.UsedUp.{front_length, no_octet_left}
use Rattle.stream.specs.declared.Stream.{Stream}
use Rattle.stream.specs.declared.Drained.{Drained}
use Rattle.stream.specs.Meaning.{empty_table, ended_of, failure_of, Drains}
use Rattle.stream.specs.Stands.{Stands, Turned, with_run}

-- the tests of the code: octets were asked for and none came; and what is written and no refusal but a body cut short lets a stream go on
pub asked_empty : (refusal kept : ℕ) (z : Bool) → ((nat_lt 0 refusal || kept == 0) && z) ≡ true → refusal ≡ 0 → kept ≡ 0
asked_empty refusal kept z e n = eqb-true kept 0 (right (both (nat_lt 0 refusal || kept == 0) z e).0)
  where
    right : (nat_lt 0 refusal || kept == 0) ≡ true → (kept == 0) ≡ true
    right h = sym (ap (λ (t : Bool). t || kept == 0) (le-ltb 0 refusal (omega (arith, n)))) ∙ h

pub refused_above : (written : Result (Unit {0}) Failure) (refusal left : ℕ) (f : Option Failure)
    → f ≡ result_err written → (is_ok written && nat_le refusal 1) ≡ false → f ≡ None → refusal ≡ 0 → left ≡ 0
refused_above (Ok u) refusal left f e m n z = absurd (omega (arith, leb-false refusal 1 m, z))
refused_above (Err failure) refusal left f e m n z = absurd cc

pub none_by : {T : Type 0} (o : Option T) → is_some o ≡ false → o ≡ None
none_by None e = refl
none_by (Some x) e = cc

-- nothing has failed where it has come to its end
pub well : (r : Result Bool Failure) → failure_of r ≡ None → r ≡ Ok false
well (Ok true) e = absurd cc
well (Ok false) e = refl
well (Err failure) e = absurd cc

-- before the first piece
module _ {n : ℕ} (bank : Rows) (lists buffer : List ℕ) (w : Page) where
  abbrev begun : Filter → Progress → Stream n
  begun row p = record { table = repeated row filter_count; buffer = buffer; page = w; kept = 0; octets = 0; progress = p }

  first : (quiet : Bool) → Stands (bridge empty_table bank lists) (begun no_row (fresh_progress_of quiet)) bank lists
  first quiet = record { input = []; answers = []; front = begins; within = omega arith; full = refl; records = refl; arrivals = refl; octets = refl; stops = used_up refl refl }

  pub stands_first : (quiet : Bool) (row : Filter) (p : Progress) → row ≡ no_row → p ≡ fresh_progress_of quiet → Stands (bridge empty_table bank lists) (begun row p) bank lists
  stands_first quiet row p e f =
      subst (λ (r : Filter). Stands (bridge empty_table bank lists) (begun r p) bank lists) (sym e)
      (subst (λ (q : Progress). Stands (bridge empty_table bank lists) (begun no_row q) bank lists) (sym f) (first quiet))

-- a run over the piece, and what is kept of it
module _ (after : List ℕ) (end at : ℕ) (buffer : List ℕ) (left : ℕ) (k : ◌≡◌ {A = Kept} (record { buffer = buffer; waiting = left }) (kept_of after at end)) where
  abbrev rest_of : List ℕ
  rest_of = drop at (take end after)

  left_is : left ≡ length rest_of
  unfolding kept_of
  left_is = ap (λ (x : Kept). x.waiting) k

  buffer_is : buffer ≡ rest_of ++ drop (length rest_of) after
  unfolding kept_of
  buffer_is = ap (λ (x : Kept). x.buffer) k

  waits : rest_of ≡ take left buffer
  waits = sym (ap (λ (n : ℕ). take n buffer) left_is ∙ ap (take (length rest_of)) buffer_is ∙ take-append_seam rest_of (drop (length rest_of) after))

-- a turn that runs
pub turns_on : {n : ℕ} (s : Stream n) (bank : Rows) (lists after : List ℕ) (end : ℕ) → Fills s.buffer s.kept after end → end < 2 ^ 64
    → (w : Page) (octets : List ℕ) → w ≡ page octets 0 → (table : List Filter) (bank' : Rows) (lists' : List ℕ) (w' : Page) (p : Progress)
    → ran table bank' lists' w' p ≡ piece_run_of (length (take end after)) (take end after) (bridge s.table bank lists) w (again_of s.progress)
    → (buffer : List ℕ) (left : ℕ) → ◌≡◌ {A = Kept} (record { buffer = buffer; waiting = left }) (kept_of after p.at end)
    → (taken : ℕ) → Turned s bank lists (record { table = table; buffer = buffer; page = w'; kept = left; octets = taken; progress = p }) bank' lists'
turns_on s bank lists after end f small w octets cleared table bank' lists' w' p e buffer left k taken =
    with_run octets (take end after) f.read f.there (omega (arith, small, length-take end after))
    (e ∙ ap (λ (v : Page). piece_run_of (length (take end after)) (take end after) (bridge s.table bank lists) v (again_of s.progress)) cleared)
    (sym (waits after end p.at buffer left k))

module _ {n : ℕ} (b : Bridge) (s : Stream n) (bank : Rows) (lists after : List ℕ) (st : Stands b s bank lists) where
  -- nothing more is taken
  pub stands_still : (w : Page) → length after ≡ length s.buffer → take s.kept after ≡ take s.kept s.buffer → Stands b (record s { buffer = after; page = w }) bank lists
  stands_still w same stays = record {
    input = st.input;
    answers = st.answers;
    front = subst (λ (xs : List ℕ). Front b st.input st.answers (bridge s.table bank lists) xs) (sym stays) st.front;
    within = omega (arith, same, st.within);
    full = st.full;
    records = st.records;
    arrivals = st.arrivals;
    octets = st.octets;
    stops = subst (λ (xs : List ℕ). Stops (bridge s.table bank lists) xs s.progress) (sym stays) st.stops;
  }

  module _ (end : ℕ) (f : Fills s.buffer s.kept after end) where
    pub stands_filled : (w : Page) → length after ≡ length s.buffer → Stands b (record s { buffer = after; page = w }) bank lists
    stands_filled w same = stands_still w same (kept_stays s.buffer after s.kept end f st.within)

    -- a run over the piece
    module _ (small : end < 2 ^ 64) (w : Page) (table : List Filter) (bank' : Rows) (lists' : List ℕ) (w' : Page) (p : Progress)
        (e : ran table bank' lists' w' p ≡ piece_run_of (length (take end after)) (take end after) (bridge s.table bank lists) w (again_of s.progress))
        (buffer : List ℕ) (left : ℕ) (k : ◌≡◌ {A = Kept} (record { buffer = buffer; waiting = left }) (kept_of after p.at end)) where
      abbrev piece : List ℕ
      piece = take end after

      abbrev rest : List ℕ
      rest = drop p.at piece

      is : RunIs piece (bridge s.table bank lists) w (again_of s.progress) (ran table bank' lists' w' p)
      is =
          subst (RunIs piece (bridge s.table bank lists) w (again_of s.progress)) (sym e)
          (run_is_front piece (omega (arith, small, length-take end after)) (bridge s.table bank lists) w (again_of s.progress) (again_going piece s.progress (omega (arith, st.records)) (omega (arith, st.arrivals))))

      pub stands_on : (octets : ℕ) → octets ≡ (s.octets + (end - left)) % 2 ^ 64 → Stands {n = n} b (record { table = table; buffer = buffer; page = w'; kept = left; octets = octets; progress = p }) bank' lists'
      stands_on octets o =
          let counts = counted_on st.answers is.answers in
          let left_length = left_is after end p.at buffer left k in
          record {
            input = st.input ++ f.read;
            answers = st.answers ++ is.answers;
            front =
                front_follows (front_extends f.read st.front)
                (subst (λ (xs : List ℕ). Front (bridge s.table bank lists) xs is.answers (bridge table bank' lists') (take left buffer)) f.there
                (subst (λ (xs : List ℕ). Front (bridge s.table bank lists) piece is.answers (bridge table bank' lists') xs) (waits after end p.at buffer left k) is.front));
            within = omega (arith, left_length, ap length (buffer_is after end p.at buffer left k), length-append rest (drop (length rest) after));
            full = st.full;
            records = omega (arith, is.records, st.records, counts.0);
            arrivals = omega (arith, is.arrivals, st.arrivals, counts.1.0);
            octets = omega (arith, o, st.octets, counts.1.1, left_length, length-drop p.at piece, length-take end after, f.within, is.at, is.within);
            stops = subst (λ (xs : List ℕ). Stops (bridge table bank' lists') xs p) (waits after end p.at buffer left k) is.stops;
          }

-- at the end
module _ {n : ℕ} (bank : Rows) (lists : List ℕ) (s : Stream n) (bank' : Rows) (lists' : List ℕ) (st : Stands (bridge empty_table bank lists) s bank' lists') where
  abbrev last : Bridge
  last = bridge s.table bank' lists'

  abbrev left_over : List ℕ
  left_over = take s.kept s.buffer

  left_length : s.kept ≡ length left_over
  left_length = omega (arith, st.within, length-take s.kept s.buffer)

  -- where no refusal has stopped it, no octet is left
  used : s.progress.refusal ≡ 0 → s.kept ≡ 0 → (why : Refusal) × (((take_of last left_over).answer.verdict ≡ Refused why) × (ended_of s.progress.refusal s.kept ≡ ended_of (refusal_number_of why) (length left_over)))
  unfolding ended_of
  used n e = (
    CutShort,
    (
      ap (λ (k : ℕ). (take_of last (take k s.buffer)).answer.verdict) e ∙ no_octet_left last (front_length st.front ∙ st.full),
      rw (n, ← left_length, e),
    ),
  )

  closed : Stops last left_over s.progress → (s.progress.refusal ≡ 0 → s.kept ≡ 0)
      → (why : Refusal) × (((take_of last left_over).answer.verdict ≡ Refused why) × (ended_of s.progress.refusal s.kept ≡ ended_of (refusal_number_of why) (length left_over)))
  closed (refused why e n) over = (why, (e, rw (n, ← left_length)))
  closed (full n e) over = used n (over n)
  closed (used_up n e) over = used n (over n)

  pub stands_drains : (d : Drained) → d.refusal ≡ ended_of s.progress.refusal s.kept → d.records ≡ s.progress.records → d.octets ≡ s.octets → (d.failure ≡ None → s.progress.refusal ≡ 0 → s.kept ≡ 0)
      → Drains bank lists bank' lists' d
  stands_drains d r records octets over = record {
    input = st.input;
    answers = st.answers;
    table = s.table;
    rest = left_over;
    front = st.front;
    records = records ∙ st.records;
    octets = octets ∙ st.octets;
    whole = λ e. let c = closed st.stops (over e) in (c.0, (record { front = st.front; refused = c.1.0 }, r ∙ c.1.1));
  }
