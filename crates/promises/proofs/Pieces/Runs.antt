-- What `run::run` leaves and answers over a piece (`piece_run_of`) is what `Front` and `Input` say of its octets, as far as the room goes: the bridge, the
-- octets taken, the records and arrivals counted, the refusal, and the text, which is the lines of the answers in order.
use Prim.Native.Nat.{ℕ, zero, suc, ◌+◌, ◌-◌, ◌%◌, ◌^◌, ◌<◌, ◌≤◌}
use Rattle.std.specs.Prelude.{Bool, cond, Some, None, ◌≡◌, ◌≢◌, length, drop}
use Rattle.std.proofs.Math.Bool.{true, false}
use mathlib.Core.List.{List, [], ◌∷◌, ◌++◌, append-nil, append_assoc}
use Rattle.std.proofs.Math.Path.{refl, sym, ap, subst}
use Rattle.std.proofs.Common.{◌∙◌, arith, length-drop, length-append, drop_of_length-le, drop-drop}
use borrow.Author.Tests.{leb-true}
use Rattle.record.specs.declared.Refusal.{Refusal}
use Rattle.record.specs.Meaning.{refusal_number_of}
use Rattle.verdict.specs.Meaning.{Verdict, Refused, Taken, Passed, Dropped, Answer}
use Rattle.stage.specs.Meaning.{Bridge, Took, take_of}
use Rattle.text.specs.Meaning.{line_room, Page, page, written, pass_line_of, drop_line_of}
use Rattle.text.proofs.Laws.{written_append, written_none}
use Rattle.text.proofs.Room.{room_whole, length_written}
use Rattle.run.specs.declared.Progress.{Progress}
use Rattle.run.specs.Meaning.{again_of, room_of, Printed, printed, printed_by, printed_of, moved_of, stopped_of, Ran, ran_to, piece_run_of}
use Rattle.run.specs.Input.Meaning.{NoRefusal, Front, begins, takes, Input, arrival_in, arrivals_in, used_in, verdict_line_of, lines_of, told_of}
use Rattle.promises.proofs.Refusals.Keeps.{refused_changes_nothing}
use Rattle.promises.specs.Pieces.Meaning.{Brief, EachBrief, Going, Stops, refused, full, used_up, RunIs, RunsOn, ends, goes, joined, RunsAre}
use Rattle.promises.proofs.Pieces.Theorem.{uses_some, by_refusal, front_extends, front_follows}

-- ---- what is told of an answer

-- a line's number is counted modulo 2^64, so that a count may be too
line_wraps : (n m : ℕ) (v : Verdict) → n % 2 ^ 64 ≡ m % 2 ^ 64 → verdict_line_of n v ≡ verdict_line_of m v
line_wraps n m v e = same v (omega (arith, e))
  where
    same : (v : Verdict) → (n + 1) % 2 ^ 64 ≡ (m + 1) % 2 ^ 64 → verdict_line_of n v ≡ verdict_line_of m v
    same (Refused r) e = refl
    same Taken e = refl
    same (Passed p) e = ap (λ (k : ℕ). pass_line_of k p) e
    same (Dropped d) e = ap (λ (k : ℕ). drop_line_of k d) e

lines_wrap : (n m : ℕ) (answers : List Answer) → n % 2 ^ 64 ≡ m % 2 ^ 64 → lines_of n answers ≡ lines_of m answers
unfolding lines_of
lines_wrap n m [] e = refl
lines_wrap n m (a ∷ answers) e =
    rw (line_wraps n m a.verdict e, lines_wrap (n + arrival_in a.verdict) (m + arrival_in a.verdict) answers (omega (arith, e)))

-- what is told of an answer, then of those that follow it
told_on : (quiet : Bool) (n m : ℕ) (w : Page) (a : Answer) (answers : List Answer) → m ≡ (n + arrival_in a.verdict) % 2 ^ 64
    → written (written w (cond quiet [] (verdict_line_of n a.verdict))) (told_of quiet m answers) ≡ written w (told_of quiet n (a ∷ answers))
unfolding lines_of
told_on true n m w a answers e = written_none (written w []) ∙ written_none w ∙ sym (written_none w)
told_on false n m w a answers e =
    sym (written_append w (verdict_line_of n a.verdict) (lines_of m answers))
    ∙ ap (λ (xs : List ℕ). written w (verdict_line_of n a.verdict ++ xs)) (lines_wrap m (n + arrival_in a.verdict) answers (omega (arith, e)))

-- and how long that is
told_length : (quiet : Bool) (n m : ℕ) (a : Answer) (answers : List Answer) → m ≡ (n + arrival_in a.verdict) % 2 ^ 64
    → length (told_of quiet n (a ∷ answers)) ≡ length (cond quiet [] (verdict_line_of n a.verdict)) + length (told_of quiet m answers)
unfolding lines_of
told_length true n m a answers e = omega arith
told_length false n m a answers e =
    ap (λ (xs : List ℕ). length (verdict_line_of n a.verdict ++ xs)) (sym (lines_wrap m (n + arrival_in a.verdict) answers (omega (arith, e)))) ∙ length-append (verdict_line_of n a.verdict) (lines_of m answers)

told_nothing : (quiet : Bool) (n : ℕ) → ◌≡◌ {A = ℕ} (length (told_of quiet n [])) 0
unfolding lines_of
told_nothing true n = refl
told_nothing false n = refl

-- the page after a record that is taken, and how far the run is then
abbrev page_after : Page → Progress → Verdict → Page
page_after w p v = written w (cond p.quiet [] (verdict_line_of p.arrivals v))

abbrev gone_on : Page → Progress → ℕ → Verdict → Printed
gone_on w p used v = moved_of p used ((p.arrivals + arrival_in v) % 2 ^ 64) (page_after w p v)

printed_taken : (w : Page) (p : Progress) (used : ℕ) (v : Verdict) → p.arrivals < 2 ^ 64 → NoRefusal v → printed_by w p used v ≡ gone_on w p used v
unfolding printed_by
printed_taken w p used (Refused r) l h = absurd (h r refl)
printed_taken w p used Taken l h =
    ap (λ (n : ℕ). moved_of p used n w) (omega (arith, l)) ∙ ap (moved_of p used ((p.arrivals + 0) % 2 ^ 64)) (silent p.quiet)
  where
    silent : (z : Bool) → w ≡ written w (cond z [] [])
    silent true = sym (written_none w)
    silent false = sym (written_none w)
printed_taken w p used (Passed v) l h = ap (moved_of p used ((p.arrivals + 1) % 2 ^ 64)) (said p.quiet)
  where
    said : (z : Bool) → cond z w (written w (pass_line_of ((p.arrivals + 1) % 2 ^ 64) v)) ≡ written w (cond z [] (verdict_line_of p.arrivals (Passed v)))
    said true = sym (written_none w)
    said false = refl
printed_taken w p used (Dropped d) l h = ap (moved_of p used ((p.arrivals + 1) % 2 ^ 64)) (said p.quiet)
  where
    said : (z : Bool) → cond z w (written w (drop_line_of ((p.arrivals + 1) % 2 ^ 64) d)) ≡ written w (cond z [] (verdict_line_of p.arrivals (Dropped d)))
    said true = sym (written_none w)
    said false = refl

-- ---- a run, turn by turn

module _ (input : List ℕ) (small : length input < 2 ^ 64) where
  -- no record is taken
  unfoldable stays : (b : Bridge) (w : Page) (p q : Progress) → Going input p → q.at ≡ p.at → q.records ≡ p.records → q.arrivals ≡ p.arrivals → q.quiet ≡ p.quiet
      → Stops b (drop q.at input) q → RunIs input b w p (ran_to b (printed w q))
  unfolding lines_of
  stays b w p q g at records arrivals quiet stop = record {
    answers = [];
    front = subst (λ (k : ℕ). Front b (drop p.at input) [] b (drop k input)) (sym at) begins;
    at = omega (arith, at);
    within = omega (arith, at, g.within);
    records = omega (arith, records, g.records);
    arrivals = omega (arith, arrivals, g.arrivals);
    quiet = quiet;
    text = sym (written_none w) ∙ ap (written w) (nothing p.quiet);
    stops = stop;
    whole = λ room brief. omega (arith, told_nothing p.quiet p.arrivals, leb-true (w.filled + line_room) (length w.octets) room);
  }
    where
      nothing : (z : Bool) → [] ≡ told_of z p.arrivals []
      nothing true = refl
      nothing false = refl

  module _ (b : Bridge) (w : Page) (p : Progress) (g : Going input p) where
    abbrev rest : List ℕ
    rest = drop p.at input

    -- a record is taken, and the run goes on as it does from there
    module _ (o : Took) (e : take_of b rest ≡ o) (h : NoRefusal o.answer.verdict) where
      abbrev next : Printed
      next = gone_on w p o.answer.used o.answer.verdict

      abbrev line : List ℕ
      line = cond p.quiet [] (verdict_line_of p.arrivals o.answer.verdict)

      ahead : next.progress.at ≡ p.at + o.answer.used
      ahead = let u = uses_some b rest o e h in omega (arith, u.1, length-drop p.at input, small, g.within)

      going : Going input next.progress
      going = record {
        within = let u = uses_some b rest o e h in omega (arith, ahead, u.1, length-drop p.at input, g.within);
        none = refl;
        records = omega arith;
        arrivals = omega arith;
      }

      fewer : (n : ℕ) → length input - p.at ≤ suc n → length input - next.progress.at ≤ n
      fewer n l = let u = uses_some b rest o e h in omega (arith, ahead, u.0, l)

      -- its line finds its place where there is room for one
      line_placed : room_of w ≡ true → Brief o.answer.verdict → (next.page.filled ≡ w.filled + length line) × (w.filled + length line ≤ length w.octets)
      line_placed room brief =
          let short : length line ≤ line_room = quiet_brief p.quiet in
          (ap (λ (x : Page). x.filled) (room_whole w.octets w.filled line short room), omega (arith, short, leb-true (w.filled + line_room) (length w.octets) room))
        where
          quiet_brief : (z : Bool) → length (cond z [] (verdict_line_of p.arrivals o.answer.verdict)) ≤ line_room
          quiet_brief true = omega arith
          quiet_brief false = brief p.arrivals

      prepend : (r : Ran) (more : RunIs input o.after next.page next.progress r)
          → (room_of w ≡ true → Brief o.answer.verdict → EachBrief more.answers → next.page.filled + length (told_of p.quiet next.progress.arrivals more.answers) ≤ length w.octets)
          → RunIs input b w p r
      prepend r more placed = record {
        answers = o.answer ∷ more.answers;
        front =
            takes o e h
            (subst (λ (s : List ℕ). Front o.after s more.answers r.after (drop r.progress.at input)) (ap (λ (k : ℕ). drop k input) ahead ∙ sym (drop-drop o.answer.used p.at input))
            more.front);
        at = omega (arith, more.at, ahead);
        within = more.within;
        records = omega (arith, more.records);
        arrivals = omega (arith, more.arrivals);
        quiet = more.quiet;
        text = more.text ∙ told_on p.quiet p.arrivals next.progress.arrivals w o.answer more.answers refl;
        stops = more.stops;
        whole = λ room brief. omega (arith, told_length p.quiet p.arrivals next.progress.arrivals o.answer more.answers refl, (line_placed room brief.0).0, placed room brief.0 brief.1);
      }

    -- the turn of a run: what is told of the call, and the turns after it
    abbrev turned : ℕ → Printed → Ran
    turned n d = cond d.progress.more (piece_run_of n input (take_of b rest).after d.page d.progress) (ran_to (take_of b rest).after d)

    refused_turn : (n : ℕ) (why : Refusal) → (take_of b rest).answer.verdict ≡ Refused why → RunIs input b w p (turned n (printed_of w p (take_of b rest).answer))
    unfolding printed_by
    refused_turn n why e =
        let same : turned n (printed_of w p (take_of b rest).answer) ≡ ran_to b (printed w (stopped_of p (refusal_number_of why)))
        = ap (λ (v : Verdict). turned n (printed_by w p (take_of b rest).answer.used v)) e ∙ ap (λ (x : Bridge). ran_to x (printed w (stopped_of p (refusal_number_of why)))) (refused_changes_nothing b rest why e).0 in
        subst (RunIs input b w p) (sym same) (stays b w p (stopped_of p (refusal_number_of why)) g refl refl refl refl (refused why e refl))

    taken_turn : (n : ℕ) (h : NoRefusal (take_of b rest).answer.verdict) → RunIs input (take_of b rest).after (next (take_of b rest) refl h).page (next (take_of b rest) refl h).progress (piece_run_of n input (take_of b rest).after (next (take_of b rest) refl h).page (next (take_of b rest) refl h).progress)
        → RunIs input b w p (turned n (printed_of w p (take_of b rest).answer))
    unfolding stays
    taken_turn n h more = subst (λ (d : Printed). RunIs input b w p (turned n d)) (sym (printed_taken w p o.answer.used o.answer.verdict g.arrivals h)) (by_room d.progress.more refl)
      where
        o : Took
        o = take_of b rest

        d : Printed
        d = next o refl h

        as_long : length d.page.octets ≡ length w.octets
        as_long = length_written (line o refl h) w

        by_room : (z : Bool) → d.progress.more ≡ z → RunIs input b w p (cond z (piece_run_of n input o.after d.page d.progress) (ran_to o.after d))
        by_room true e = prepend o refl h _ more (λ room first briefs. omega (arith, as_long, more.whole e briefs))
        by_room false e =
            prepend o refl h _ (stays o.after d.page d.progress d.progress (going o refl h) refl refl refl refl (full refl e))
            (λ room first briefs. let at = line_placed o refl h room first in omega (arith, at.0, at.1, told_nothing p.quiet d.progress.arrivals))

  -- as many turns as there are octets left are enough
  runs_within : (n : ℕ) (b : Bridge) (w : Page) (p : Progress) → Going input p → length input - p.at ≤ n → RunIs input b w p (piece_run_of n input b w p)
  unfolding piece_run_of
  runs_within zero b w p g l = stays b w p p g refl refl refl refl (used_up g.none (drop_of_length-le input {i = p.at} (omega (arith, l))))
  runs_within (suc n) b w p g l =
      by_refusal (take_of b (drop p.at input)).answer.verdict (refused_turn b w p g n)
      (λ h. taken_turn b w p g n h (runs_within n _ _ _ (going b w p g (take_of b (drop p.at input)) refl h) (fewer b w p g (take_of b (drop p.at input)) refl h n l)))

  -- a run is a front of its piece
  pub run_is_front : (b : Bridge) (w : Page) (p : Progress) → Going input p → RunIs input b w p (piece_run_of (length input) input b w p)
  run_is_front b w p g = runs_within (length input) b w p g (omega arith)

-- where a refusal stops it, it is the whole of its input
pub stopped_is_input : (b b' : Bridge) (s rest : List ℕ) (answers : List Answer) (p : Progress) → Front b s answers b' rest → Stops b' rest p → 0 < p.refusal
    → (why : Refusal) × (Input b s answers b' rest why × (p.refusal ≡ refusal_number_of why))
stopped_is_input b b' s rest answers p front (refused why e n) l = (why, (record { front = front; refused = e }, n))
stopped_is_input b b' s rest answers p front (full n e) l = absurd (omega (arith, n, l))
stopped_is_input b b' s rest answers p front (used_up n e) l = absurd (omega (arith, n, l))

-- ---- runs one after another are one

pub again_going : (s : List ℕ) (p : Progress) → p.records < 2 ^ 64 → p.arrivals < 2 ^ 64 → Going s (again_of p)
again_going s p l k = record { within = omega arith; none = refl; records = l; arrivals = k }

-- counts of answers add up
pub counted_on : (xs ys : List Answer) → (length (xs ++ ys) ≡ length xs + length ys) × ((arrivals_in (xs ++ ys) ≡ arrivals_in xs + arrivals_in ys) × (used_in (xs ++ ys) ≡ used_in xs + used_in ys))
counted_on [] ys = (omega arith, (omega arith, omega arith))
counted_on (x ∷ xs) ys = let more = counted_on xs ys in (omega (arith, more.0), (omega (arith, more.1.0), omega (arith, more.1.1)))

-- however the input is cut into pieces, and wherever a run is stopped for room
pub runs_are_front : {b : Bridge} {s rest : List ℕ} {p : Progress} {pieces : List (List ℕ)} {last : Ran} → RunsOn b s p pieces last rest → p.records < 2 ^ 64 → p.arrivals < 2 ^ 64 → RunsAre (s ++ joined pieces) b p last rest
runs_are_front {b = b} {s = s} {p = p} (ends octets r small e) l k =
    let one = subst (RunIs s b (page octets 0) (again_of p)) (sym e) (run_is_front s small b (page octets 0) (again_of p) (again_going s p l k)) in
    record {
      answers = one.answers;
      front = subst (λ (x : List ℕ). Front b x one.answers r.after (drop r.progress.at s)) (sym (append-nil s)) one.front;
      records = one.records;
      arrivals = one.arrivals;
      stops = one.stops;
    }
runs_are_front {b = b} {s = s} {rest = rest} {p = p} {last = last} (goes {pieces = pieces} octets r piece small e more) l k =
    let one = subst (RunIs s b (page octets 0) (again_of p)) (sym e) (run_is_front s small b (page octets 0) (again_of p) (again_going s p l k)) in
    let then = runs_are_front more (omega (arith, one.records)) (omega (arith, one.arrivals)) in
    let counts = counted_on one.answers then.answers in
    record {
      answers = one.answers ++ then.answers;
      front =
          front_follows (front_extends (piece ++ joined pieces) one.front)
          (subst (λ (x : List ℕ). Front r.after x then.answers last.after rest) (append_assoc (drop r.progress.at s) piece (joined pieces)) then.front);
      records = omega (arith, then.records, one.records, counts.0);
      arrivals = omega (arith, then.arrivals, one.arrivals, counts.1.0);
      stops = then.stops;
    }
