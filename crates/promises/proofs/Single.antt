-- No second answer: every public contract is an equation with one definition, so two answers that meet it are equal. One law for each shape that
-- the contracts have.
use Rattle.std.specs.Prelude.{ℕ, List, ◌∷◌, ◌≡◌, refl, length, Result, Ok, Err}
use Rattle.std.proofs.Common.{sym, ap, ◌∙◌}
use Rattle.bank.specs.declared.Bank.{Bank}
use Rattle.bank.specs.Meaning.{Rows, rows_of}
use Rattle.bank.proofs.Rows.{rows_tell}
use Rattle.filter.specs.declared.Filter.{Filter}
use Rattle.record.specs.declared.Refusal.{Refusal}
use Rattle.verdict.specs.declared.Outcome.{Outcome}
use Rattle.verdict.specs.declared.Outcome.TheVariants.{Done, Passed as passed, Dropped as dropped}
use Rattle.verdict.specs.declared.Taken.{Taken as TakenRecord}
use Rattle.verdict.specs.Meaning.{Verdict, Refused, Taken, Passed, Dropped, Answer, Told, told, said, set_up, verdict_of, answer_of}
use Rattle.setup.specs.Meaning.{Listed, listed}
use Rattle.stage.specs.Meaning.{Bridge, Took, bridge, took, take_of}
use Rattle.transomrib.specs.declared.Reply.{Reply}
use Rattle.transomrib.specs.Meaning.{Replied, replied}
use Rattle.text.specs.Meaning.{Page, page}
use Rattle.run.specs.declared.Progress.{Progress}
use Rattle.run.specs.Meaning.{Ran, ran}
use Rattle.promises.specs.Meaning.{Call, run_of, answers_of, History, done, call}

-- `result ≡ foo_of ..`: what is given by value, and a table, a scheduler or the view of a part that is lent (`table.new ≡ ..`, `view_of r ≡ ..`)
pub one_value : {A : Type 0} (meaning r r' : A) → r ≡ meaning → r' ≡ meaning → r ≡ r'
one_value meaning r r' e e' = e ∙ sym e'

-- `rows_of w.new ≡ with_foo ..`: the bank is an array, so that both have the same length, and its rows tell every word of it
abbrev bank_of : List ℕ → Bank
bank_of ws = record { words = ws }

pub one_bank : (meaning : Rows) (w w' : Bank) → length w.words ≡ length w'.words → rows_of w ≡ meaning → rows_of w' ≡ meaning → w ≡ w'
one_bank meaning w w' same e e' = ap bank_of (rows_tell w.words w'.words same (e ∙ sym e'))

-- what the code gives is told by its verdict or answer: a frame or a start, clear or setup record, a call
abbrev back : Verdict → Result Outcome Refusal
back (Refused r) = Err r
back Taken = Ok Done
back (Passed p) = Ok (passed p)
back (Dropped d) = Ok (dropped d)

said_back : (r : Result Outcome Refusal) → back (said r) ≡ r
said_back (Ok Done) = refl
said_back (Ok (passed p)) = refl
said_back (Ok (dropped d)) = refl
said_back (Err r) = refl

pub said_tells : (r r' : Result Outcome Refusal) → said r ≡ said r' → r ≡ r'
said_tells r r' e = sym (said_back r) ∙ ap back e ∙ said_back r'

abbrev kept : Verdict → Result (Unit {0}) Refusal
kept (Refused r) = Err r
kept Taken = Ok tt
kept (Passed p) = Ok tt
kept (Dropped d) = Ok tt

kept_back : (r : Result (Unit {0}) Refusal) → kept (set_up r) ≡ r
kept_back (Ok u) = refl
kept_back (Err r) = refl

pub set_up_tells : (r r' : Result (Unit {0}) Refusal) → set_up r ≡ set_up r' → r ≡ r'
set_up_tells r r' e = sym (kept_back r) ∙ ap kept e ∙ kept_back r'

abbrev taken_back : ℕ → Verdict → Result TakenRecord Refusal
taken_back used (Refused r) = Err r
taken_back used Taken = Ok (record { used = used; outcome = Done })
taken_back used (Passed p) = Ok (record { used = used; outcome = passed p })
taken_back used (Dropped d) = Ok (record { used = used; outcome = dropped d })

outcome_back : (used : ℕ) (o : Outcome) → taken_back used (verdict_of o) ≡ Ok (record { used = used; outcome = o })
outcome_back used Done = refl
outcome_back used (passed p) = refl
outcome_back used (dropped d) = refl

answer_back : (r : Result TakenRecord Refusal) → taken_back (answer_of r).used (answer_of r).verdict ≡ r
answer_back (Ok t) = outcome_back t.used t.outcome
answer_back (Err r) = refl

pub answer_tells : (r r' : Result TakenRecord Refusal) → answer_of r ≡ answer_of r' → r ≡ r'
answer_tells r r' e = sym (answer_back r) ∙ ap (λ (a : Answer). taken_back a.used a.verdict) e ∙ answer_back r'

-- `told (rows_of bank.new) v ≡ foo_of ..`, where v is `said result` or `set_up result`: a frame, a setup record, a start, a clear
pub one_told : (meaning : Told) (w w' : Bank) (v v' : Verdict) → length w.words ≡ length w'.words → told (rows_of w) v ≡ meaning → told (rows_of w') v' ≡ meaning → (w ≡ w') × (v ≡ v')
one_told meaning w w' v v' same e e' =
    (one_bank meaning.bank w w' same (ap (λ (t : Told). t.bank) e) (ap (λ (t : Told). t.bank) e'), one_value meaning.verdict v v' (ap (λ (t : Told). t.verdict) e) (ap (λ (t : Told). t.verdict) e'))

-- `listed (rows_of bank.new) lists.new (set_up result) ≡ add_entry_of ..`: a gate entry
pub one_listed : (meaning : Listed) (w w' : Bank) (lists lists' : List ℕ) (v v' : Verdict) → length w.words ≡ length w'.words → listed (rows_of w) lists v ≡ meaning → listed (rows_of w') lists' v' ≡ meaning → (w ≡ w') × ((lists ≡ lists') × (v ≡ v'))
one_listed meaning w w' lists lists' v v' same e e' = (
  one_bank meaning.bank w w' same (ap (λ (t : Listed). t.bank) e) (ap (λ (t : Listed). t.bank) e'),
  (one_value meaning.lists lists lists' (ap (λ (t : Listed). t.lists) e) (ap (λ (t : Listed). t.lists) e'), one_value meaning.verdict v v' (ap (λ (t : Listed). t.verdict) e) (ap (λ (t : Listed). t.verdict) e')),
)

-- what a call leaves of a bridge: the table, every word of the bank, every octet of the lists
one_bridge : (meaning : Bridge) (table table' : List Filter) (w w' : Bank) (lists lists' : List ℕ) → length w.words ≡ length w'.words
    → bridge table (rows_of w) lists ≡ meaning → bridge table' (rows_of w') lists' ≡ meaning → (table ≡ table') × ((w ≡ w') × (lists ≡ lists'))
one_bridge meaning table table' w w' lists lists' same e e' = (
  one_value meaning.table table table' (ap (λ (b : Bridge). b.table) e) (ap (λ (b : Bridge). b.table) e'),
  (one_bank meaning.bank w w' same (ap (λ (b : Bridge). b.bank) e) (ap (λ (b : Bridge). b.bank) e'), one_value meaning.lists lists lists' (ap (λ (b : Bridge). b.lists) e) (ap (λ (b : Bridge). b.lists) e')),
)

-- `took table.new (rows_of bank.new) lists.new (answer_of a) ≡ take_of ..`: a call
pub take_has_one_answer : (b : Bridge) (c : Call) (table table' : List Filter) (w w' : Bank) (lists lists' : List ℕ) (a a' : Result TakenRecord Refusal) → length w.words ≡ length w'.words
    → took table (rows_of w) lists (answer_of a) ≡ take_of b c → took table' (rows_of w') lists' (answer_of a') ≡ take_of b c → ((table ≡ table') × ((w ≡ w') × (lists ≡ lists'))) × (a ≡ a')
take_has_one_answer b c table table' w w' lists lists' a a' same e e' =
    (one_bridge (take_of b c).after table table' w w' lists lists' same (ap (λ (o : Took). o.after) e) (ap (λ (o : Took). o.after) e'), answer_tells a a' (one_value (take_of b c).answer _ _ (ap (λ (o : Took). o.answer) e) (ap (λ (o : Took). o.answer) e')))

-- `replied .. ≡ replied_of ..`: a call from C
pub one_reply : (meaning : Replied) (table table' : List Filter) (w w' : Bank) (lists lists' : List ℕ) (r r' : Reply) → length w.words ≡ length w'.words
    → replied table (rows_of w) lists r ≡ meaning → replied table' (rows_of w') lists' r' ≡ meaning → ((table ≡ table') × ((w ≡ w') × (lists ≡ lists'))) × (r ≡ r')
one_reply meaning table table' w w' lists lists' r r' same e e' =
    (one_bridge meaning.after table table' w w' lists lists' same (ap (λ (o : Replied). o.after) e) (ap (λ (o : Replied). o.after) e'), one_value meaning.reply r r' (ap (λ (o : Replied). o.reply) e) (ap (λ (o : Replied). o.reply) e'))

-- `self.new ≡ written self.old ..`, a page being its octets and its place: a line, with every octet of the page and the place after the line
pub one_page : (meaning : Page) (out out' : List ℕ) (r r' : ℕ) → page out r ≡ meaning → page out' r' ≡ meaning → (out ≡ out') × (r ≡ r')
one_page meaning out out' r r' e e' =
    (one_value meaning.octets out out' (ap (λ (p : Page). p.octets) e) (ap (λ (p : Page). p.octets) e'), one_value meaning.filled r r' (ap (λ (p : Page). p.filled) e) (ap (λ (p : Page). p.filled) e'))

-- `ran .. ≡ piece_run_of ..`: a piece of input
pub one_run : (meaning : Ran) (table table' : List Filter) (w w' : Bank) (lists lists' : List ℕ) (q q' : Page) (p p' : Progress) → length w.words ≡ length w'.words
    → ran table (rows_of w) lists q p ≡ meaning → ran table' (rows_of w') lists' q' p' ≡ meaning → ((table ≡ table') × ((w ≡ w') × (lists ≡ lists'))) × ((q ≡ q') × (p ≡ p'))
one_run meaning table table' w w' lists lists' q q' p p' same e e' = (
  one_bridge meaning.after table table' w w' lists lists' same (ap (λ (o : Ran). o.after) e) (ap (λ (o : Ran). o.after) e'),
  (one_value meaning.page q q' (ap (λ (o : Ran). o.page) e) (ap (λ (o : Ran). o.page) e'), one_value meaning.progress p p' (ap (λ (o : Ran). o.progress) e) (ap (λ (o : Ran). o.progress) e')),
)

-- ---- every history. Calls one after another, each of which meets the contract on the bridge that the one before it left

-- its answers and the bridge that it leaves are those of the definitions, and so no other history fits
pub history_is_run : {b b' : Bridge} {cs : List Call} {answers : List Answer} → History b cs answers b' → (b' ≡ run_of b cs) × (answers ≡ answers_of b cs)
unfolding run_of answers_of
history_is_run done = (refl, refl)
history_is_run (call {b = b} {c = c} {cs = cs} {answers = answers} e more) =
    let rest = history_is_run more in
    (rest.0 ∙ ap (λ (o : Took). run_of o.after cs) e, ap (λ (o : Took). o.answer ∷ answers) e ∙ ap (λ (xs : List Answer). (take_of b c).answer ∷ xs) (rest.1 ∙ ap (λ (o : Took). answers_of o.after cs) e))
