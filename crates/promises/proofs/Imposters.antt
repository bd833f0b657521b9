-- Wrong machines against the promises: each breaks one, shown on octets. A promise is stated here for any machine; that it is the promise is seen
-- from the line below it, where the theorem of that name gives it for `take_of`.
use Rattle.std.specs.Prelude.{ℕ, ◌%◌, ◌<◌, cond, not, true, false, ◌&&◌, List, [], ◌∷◌, ◌++◌, ◌≡◌, refl, eqb, ltb, length, Ok, Err, None, Some}
use Rattle.std.proofs.Common.{sym, ap, ◌∙◌, arith}
use Rattle.sizes.specs.Meaning.{filter_count}
use Rattle.logic.specs.Laws.{never}
use Rattle.record.specs.declared.ArrivalRecord.{ArrivalRecord}
use Rattle.record.specs.Meaning.{Reading}
use Rattle.record.specs.declared.Refusal.TheVariants.{OutOfRange}
use Rattle.record.specs.Meaning.{read_as, read_of, of_arrival}
use Rattle.bank.specs.Meaning.{with_row, component, counters, with_oversize}
use Rattle.filter.specs.Meaning.{Fits}
use Rattle.filter.specs.Meaning.{Found}
use Rattle.filter.specs.Meaning.{row_in_range, is_filter_of, names_missing, exceeds_burst, counts_of, fits_of, row_answers, search_of}
use Rattle.verdict.specs.Meaning.{Passed}
use Rattle.setup.specs.Meaning.{refused_if, set_gate_of, some_of, start_of, clear_oversize_of, clear_of}
use Rattle.path.specs.Meaning.{sdu_failed, sdu_filtered_of, arrival_of}
use Rattle.stage.specs.Meaning.{Bridge, Took, took, key_of, first_row, answered, refused_of, taken_of, read_by, take_of}
use Rattle.promises.specs.Meaning.{Call, run_of, fresh, Event, filter_in, reading_of, event_of, events_of}
use Rattle.promises.specs.Refusals.Meaning.{refusal_in, first_holding, tries_of}
use Rattle.promises.proofs.Refusals.Numbers.{refusal_by_table}
use Rattle.promises.specs.Counters.Meaning.{matching, count_of, wrap}
use Rattle.promises.proofs.Counters.Runs.{matching_counted}
use Rattle.promises.specs.Flags.Meaning.{clears}
use Rattle.promises.proofs.Flags.Oversize.{oversize_stands}
use Rattle.promises.proofs.Flags.Lifted.{oversize_lifted}

-- what a call does
abbrev pub Machine : Type 0
Machine = Bridge → Call → Took

-- what it did, as the promises see it, and the bridge and the events after calls
abbrev pub event_by : Machine → Bridge → Call → Event
event_by m b c = record { reading = reading_of b c; filter = filter_in b (reading_of b c); verdict = (m b c).answer.verdict }

unfoldable pub run_by : Machine → Bridge → List Call → Bridge
run_by m b [] = b
run_by m b (c ∷ cs) = run_by m (m b c).after cs

unfoldable pub events_by : Machine → Bridge → List Call → List Event
events_by m b [] = []
events_by m b (c ∷ cs) = event_by m b c ∷ events_by m (m b c).after cs

-- ---- a blocked filter: gate 0, open; filter 0 for every frame, with a max SDU of 1000 and its block; start; a frame of 1001 octets at 1 ns

abbrev start : Call
start = 8 ∷ 8 ∷ []

abbrev setup : List Call
setup =
    (3 ∷ 0 ∷ 1 ∷ 8 ∷ 0 ∷ 0 ∷ 0 ∷ 0 ∷ 0 ∷ 0 ∷ 0 ∷ 0 ∷ 0 ∷ 0 ∷ []) ∷ (2 ∷ 0 ∷ 1 ∷ 0 ∷ 0 ∷ 0 ∷ 0 ∷ 8 ∷ 0 ∷ 3 ∷ 232 ∷ 1 ∷ 255 ∷ 255 ∷ []) ∷ start ∷ (9 ∷ 0 ∷ 0 ∷ 0 ∷ 0 ∷ 0 ∷ 0 ∷ 0 ∷ 0 ∷ 1 ∷ 0 ∷ 0 ∷ 0 ∷ 0 ∷ 0 ∷ 0 ∷ 3 ∷ 233 ∷ []) ∷ []

abbrev blocked : Bridge
blocked = run_of fresh setup

-- a frame of 1000 octets, at 2 ns; the clear of that flag
abbrev good : Call
good = 9 ∷ 0 ∷ 0 ∷ 0 ∷ 0 ∷ 0 ∷ 0 ∷ 0 ∷ 0 ∷ 2 ∷ 0 ∷ 0 ∷ 0 ∷ 0 ∷ 0 ∷ 0 ∷ 3 ∷ 232 ∷ []

abbrev lifting : Call
lifting = 10 ∷ 1 ∷ 0 ∷ []

is_blocked : (counters blocked.bank 0).oversize ≡ true
unfolding run_of fresh take_of read_by taken_of read_of read_as with_row refused_if set_gate_of some_of start_of row_in_range is_filter_of names_missing exceeds_burst counts_of fits_of row_answers search_of sdu_failed sdu_filtered_of arrival_of
is_blocked = refl

-- ---- a machine that refuses everything

abbrev pub ByTable : Machine → Type 0
ByTable m = (b : Bridge) (c : Call) → refusal_in (m b c).answer.verdict ≡ first_holding (tries_of b c)

take_by_table : ByTable take_of
take_by_table = refusal_by_table

abbrev pub refuses_all : Machine
refuses_all b c = refused_of b OutOfRange

-- start with nothing set up is no refusal
pub refusing_all_breaks : ByTable refuses_all → ⊥
unfolding fresh some_of search_of row_answers is_filter_of
refusing_all_breaks h = let z : ◌≡◌ {A = ℕ} 3 0 = h fresh start in omega (arith, z)

-- ---- one that answers as it should, and leaves the state untouched

abbrev pub Lifts : Machine → Type 0
Lifts m = (b : Bridge) (c : Call) (i : ℕ) → clears 1 i (event_by m b c) ≡ true → (counters (m b c).after.bank i).oversize ≡ false

take_lifts : Lifts take_of
take_lifts = oversize_lifted

abbrev pub forgets : Machine
forgets b c = record { after = b; answer = (take_of b c).answer }

clear_is_taken : clears 1 0 (event_by forgets blocked lifting) ≡ true
unfolding run_of fresh take_of read_by taken_of read_of read_as with_row refused_if set_gate_of some_of start_of row_in_range is_filter_of names_missing exceeds_burst counts_of fits_of row_answers search_of sdu_failed sdu_filtered_of arrival_of clear_of clear_oversize_of
clear_is_taken = refl

pub forgetting_breaks : Lifts forgets → ⊥
forgetting_breaks h = never (sym (h blocked lifting 0 clear_is_taken) ∙ is_blocked)

-- ---- one that polices until the clock has moved, and waves every later frame through

abbrev pub Counts : Machine → Type 0
Counts m = (cs : List Call) (f : ℕ) → f < filter_count → (counters (run_by m fresh cs).bank f).matching ≡ count_of (matching f) (events_by m fresh cs) % wrap

run_by_take : (b : Bridge) (cs : List Call) → run_by take_of b cs ≡ run_of b cs
unfolding run_by run_of
run_by_take b [] = refl
run_by_take b (c ∷ cs) = run_by_take (take_of b c).after cs

events_by_take : (b : Bridge) (cs : List Call) → events_by take_of b cs ≡ events_of b cs
unfolding events_by events_of
events_by_take b [] = refl
events_by_take b (c ∷ cs) = ap (λ (es : List Event). event_of b c ∷ es) (events_by_take (take_of b c).after cs)

take_counts : Counts take_of
take_counts cs f h =
    ap (λ (b : Bridge). (counters b.bank f).matching) (run_by_take fresh cs) ∙ matching_counted cs f h ∙ ap (λ (es : List Event). count_of (matching f) es % wrap) (sym (events_by_take fresh cs))

abbrev pub polices_once : Machine
polices_once b c =
    cond (eqb (component b.bank).clock 0) (take_of b c)
    (took b.table b.bank b.lists (answered (length c) (Passed (record { priority = 0; class = 0; drop_mark = 0; timed = false; eligible = 0 }))))

-- of two frames it counts the first
pub policing_once_breaks : Counts polices_once → ⊥
unfolding run_by events_by count_of fresh take_of read_by taken_of read_of read_as with_row refused_if set_gate_of some_of start_of row_in_range is_filter_of names_missing exceeds_burst counts_of fits_of row_answers search_of sdu_failed sdu_filtered_of arrival_of
policing_once_breaks h = let z : ◌≡◌ {A = ℕ} 1 2 = h (setup ++ (good ∷ [])) 0 (omega arith) in omega (arith, z)

-- ---- one in which a frame that is not oversize lifts the oversize flag of the filter that it uses

abbrev pub Stands : Machine → Type 0
Stands m = (b : Bridge) (c : Call) (i : ℕ) → i < filter_count → (counters b.bank i).oversize ≡ true → clears 1 i (event_by m b c) ≡ false → (counters (m b c).after.bank i).oversize ≡ true

take_stands : Stands take_of
take_stands = oversize_stands

abbrev lifted : Took → ArrivalRecord → Found → Took
lifted o a None = o
lifted o a (Some (f, row)) =
    cond (not (eqb row.max_sdu 0) && ltb row.max_sdu a.msdu) o (took o.after.table (with_oversize o.after.bank f false) o.after.lists o.answer)

abbrev lifted_by : Bridge → Took → Reading → Took
lifted_by b o (Err why) = o
lifted_by b o (Ok (r, used)) = of_arrival (λ a. lifted o a (first_row b Fits (key_of a))) o r

abbrev pub good_lifts : Machine
good_lifts b c = lifted_by b (take_of b c) (reading_of b c)

no_clear : clears 1 0 (event_by good_lifts blocked good) ≡ false
unfolding run_of fresh take_of read_by taken_of read_of read_as with_row refused_if set_gate_of some_of start_of row_in_range is_filter_of names_missing exceeds_burst counts_of fits_of row_answers search_of sdu_failed sdu_filtered_of arrival_of
no_clear = refl

is_down : (counters (good_lifts blocked good).after.bank 0).oversize ≡ false
unfolding run_of fresh take_of read_by taken_of read_of read_as with_row refused_if set_gate_of some_of start_of row_in_range is_filter_of names_missing exceeds_burst counts_of fits_of row_answers search_of sdu_failed sdu_filtered_of arrival_of
is_down = refl

pub good_frame_lifting_breaks : Stands good_lifts → ⊥
good_frame_lifting_breaks h = never (sym is_down ∙ h blocked good 0 (omega arith) is_blocked no_clear)
