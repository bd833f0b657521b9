-- No octet of a line is ever left out: no frame that a bridge can be given has a longer line than the room that is kept for one, so that a run which
-- begins with that room prints the lines of its answers whole.
use Rattle.std.specs.Prelude.{ℕ, ◌+◌, ◌%◌, ◌^◌, ◌<◌, Bool, true, false, List, ◌≡◌, refl, eqb, ltb, length, Ok}
use Rattle.std.proofs.Common.{sym, ap, subst, ◌∙◌, arith}
use Rattle.sizes.specs.Meaning.{filter_count, entry_count}
use Rattle.logic.specs.Laws.{if_by}
use Rattle.record.specs.declared.Record.{Record}
use Rattle.record.specs.declared.ArrivalRecord.{ArrivalRecord}
use Rattle.record.specs.declared.ClearRecord.{ClearRecord}
use Rattle.record.specs.declared.Refusal.{Refusal}
use Rattle.bank.specs.Meaning.{Rows, entries}
use Rattle.filter.specs.declared.Filter.{Filter}
use Rattle.filter.specs.Meaning.{is_filter_of, row_of}
use Rattle.verdict.specs.Meaning.{Answer}
use Rattle.verdict.specs.declared.Pass.{Pass}
use Rattle.verdict.specs.Meaning.{Verdict}
use Rattle.verdict.specs.Meaning.{Refused, Taken, Passed, Dropped}
use Rattle.verdict.specs.Meaning.{Told}
use Rattle.setup.specs.Meaning.{Listed, refused_if, set_port_of, set_gate_of, add_entry_of, set_meter_of, set_group_of, set_scheduler_of, start_of, clear_oversize_of, clear_invalid_receive_of, clear_octets_of, clear_red_of, clear_of}
use Rattle.stage.specs.Meaning.{Bridge, Took, answered, taken_of, take_of}
use Rattle.text.specs.Meaning.{Page}
use Rattle.text.proofs.Room.{whole_line, written_whole, pass_room, drop_room}
use Rattle.run.specs.declared.Progress.{Progress}
use Rattle.run.specs.Meaning.{room_of, piece_run_of}
use Rattle.run.specs.Input.Meaning.{Front, begins, takes, told_of}
use Rattle.promises.specs.Meaning.{Call}
use Rattle.promises.proofs.Ways.{Called, unread, read, called_way}
use Rattle.promises.proofs.Refusals.Keeps.{answered_verdict}
use Rattle.promises.specs.Sound.Meaning.{Reached, calls}
use Rattle.promises.proofs.Sound.Theorem.{pass_in_bounds}
use Rattle.promises.specs.Pieces.Meaning.{Brief, EachBrief, Going}
use Rattle.promises.proofs.Pieces.Runs.{run_is_front}
use Rattle.promises.proofs.Pieces.UsedUp.{front_length}
use Rattle.record.specs.declared.Record.TheVariants as kind

-- ---- only an arrival passes: every other record is taken or refused

pub data Plain : Verdict → Type 0 where
  refused : (why : Refusal) → Plain (Refused why)
  taken : Plain Taken

if_plain : (t : Bool) (why : Refusal) (s : Rows) (x : Told) → Plain x.verdict → Plain (refused_if t why s x).verdict
unfolding refused_if
if_plain true why s x h = refused why
if_plain false why s x h = h

abbrev Answered : Told → Type 0
Answered x = Plain x.verdict

clear_plain : (s : Rows) (r : ClearRecord) (row : Filter) → Answered (clear_of s r row)
unfolding clear_of clear_oversize_of clear_invalid_receive_of clear_octets_of clear_red_of
clear_plain s r row =
    if_by Answered (eqb r.flag 1) _ _ (λ e. if_plain _ _ s _ taken)
    (λ e. if_by Answered (eqb r.flag 2) _ _ (λ e. if_plain _ _ s _ taken)
    (λ e. if_by Answered (eqb r.flag 3) _ _ (λ e. if_plain _ _ s _ taken)
    (λ e. if_by Answered (eqb r.flag 4) _ _ (λ e. if_plain _ _ s _ taken) (λ e. refused _))))

never_passed : {A : Type 0} {v : Verdict} (p : Pass) → Plain v → v ≡ Passed p → A
never_passed p (refused why) e = absurd (let z : ◌≡◌ {A = ℕ} 0 1 = cc in omega arith)
never_passed p taken e = absurd (let z : ◌≡◌ {A = ℕ} 0 1 = cc in omega arith)

module _ (b : Bridge) (c : Call) (p : Pass) where
  plainly : {A : Type 0} (used : ℕ) (v : Verdict) → Plain v → (answered used v).verdict ≡ Passed p → A
  plainly used v h e = never_passed p h (sym (answered_verdict used v) ∙ e)

  passed_arrival : (r : Record) (used : ℕ) → (taken_of b c r used).answer.verdict ≡ Passed p → (a : ArrivalRecord) × (r ≡ kind.Arrival a)
  unfolding taken_of set_port_of set_gate_of add_entry_of set_meter_of set_group_of set_scheduler_of start_of
  passed_arrival (kind.Port r) used e = plainly used _ (if_plain _ _ b.bank _ taken) e
  passed_arrival (kind.Filter r) used e = never_passed p (if_by (λ (o : Took). Plain o.answer.verdict) (is_filter_of (row_of b.table r.id)) _ _ (λ h. refused _) (λ h. taken)) e
  passed_arrival (kind.Gate r) used e = plainly used _ (if_plain _ _ b.bank _ taken) e
  passed_arrival (kind.GateEntry r) used e = plainly used _ (if_by (λ (x : Listed). Plain x.verdict) (ltb (entries b.bank r.gate) entry_count) _ _ (λ h. taken) (λ h. refused _)) e
  passed_arrival (kind.Meter r) used e = plainly used _ (if_plain _ _ b.bank _ taken) e
  passed_arrival (kind.Group r) used e = plainly used _ (if_plain _ _ b.bank _ taken) e
  passed_arrival (kind.Scheduler r) used e = plainly used _ (if_plain _ _ b.bank _ taken) e
  passed_arrival (kind.Start r) used e = plainly used _ (if_plain _ _ b.bank _ (if_plain _ _ b.bank _ taken)) e
  passed_arrival (kind.Arrival a) used e = (a, refl)
  passed_arrival (kind.Clear r) used e = plainly used _ (clear_plain b.bank r (row_of b.table r.id)) e

-- ---- no line is longer than its room

module _ (b : Bridge) (reached : Reached b) (full : length b.table ≡ filter_count) (c : Call) where
  pass_brief : (o : Took) → Called b c o → take_of b c ≡ o → (p : Pass) → o.answer.verdict ≡ Passed p → Brief (Passed p)
  pass_brief o (unread why) q p e n = absurd (let z : ◌≡◌ {A = ℕ} 0 1 = cc in omega arith)
  pass_brief o (read r used whole said) q p e n =
      let arrival = passed_arrival b c p r used e in
      let h = pass_in_bounds b reached full c arrival.0 used (said ∙ ap (λ (x : Record). Ok (x, used)) arrival.1) p (ap (λ (x : Took). x.answer.verdict) q ∙ e) in
      pass_room ((n + 1) % 2 ^ 64) (omega arith) p (omega (arith, h.0)) (omega (arith, h.1)) (omega (arith, h.2)) (omega (arith, h.3))

  verdict_brief : (v : Verdict) → (take_of b c).answer.verdict ≡ v → Brief v
  verdict_brief (Refused why) e n = omega arith
  verdict_brief Taken e n = omega arith
  verdict_brief (Passed p) e n = pass_brief (take_of b c) (called_way b c) refl p e n
  verdict_brief (Dropped d) e n = drop_room ((n + 1) % 2 ^ 64) (omega arith) d

front_brief : {b b' : Bridge} {s rest : List ℕ} {answers : List Answer} → Reached b → length b.table ≡ filter_count → Front b s answers b' rest → EachBrief answers
front_brief reached full begins = tt
front_brief {b = b} {s = s} reached full (takes o e h more) = (
  verdict_brief b reached full s o.answer.verdict (ap (λ (x : Took). x.answer.verdict) e),
  front_brief (subst (λ (x : Took). Reached x.after) e (calls reached s)) (front_length (takes o e h begins) ∙ full) more,
)

-- a run from a bridge that calls can reach, whose page has room for a line at first, puts the lines of its answers whole after what was filled
pub run_prints_whole : (input : List ℕ) (small : length input < 2 ^ 64) (b : Bridge) → Reached b → length b.table ≡ filter_count → (w : Page) (p : Progress) (g : Going input p) → room_of w ≡ true
    → (piece_run_of (length input) input b w p).page ≡ whole_line w.octets w.filled (told_of p.quiet p.arrivals (run_is_front input small b w p g).answers)
run_prints_whole input small b reached full w p g room =
    let is = run_is_front input small b w p g in
    is.text ∙ written_whole w.octets w.filled (told_of p.quiet p.arrivals is.answers) (is.whole room (front_brief reached full is.front))
