-- An input of many records may come in pieces, wherever they are cut. No octet past a record is looked at, so that only a record that is cut short
-- has to wait, with its octets before those of the next piece: that is how `stream` hands the input of the programs on.
use Rattle.std.specs.Prelude.{ℕ, zero, suc, ◌≤◌, Bool, cond, List, [], ◌∷◌, ◌++◌, ◌≢◌, ◌≡◌, eqb, length, drop, Ok, Err}
use Rattle.std.proofs.Math.Bool.{true, false}
use Rattle.std.proofs.Math.Path.{refl, ap}
use Rattle.std.proofs.Common.{sym, subst, ◌∙◌, arith, length-drop}
use Rattle.std.proofs.lemmas.List.{drop-append-le}
use Rattle.sizes.specs.Meaning.{filter_count}
use Rattle.record.specs.declared.Record.{Record}
use Rattle.record.specs.declared.Refusal.{Refusal}
use Rattle.record.specs.declared.Refusal.TheVariants.{CutShort, TableLength}
use Rattle.record.specs.Meaning.{Reading}
use Rattle.record.specs.Meaning.{read_of, record_length}
use Rattle.record.proofs.Laws.{read_uses, read_extends}
use Rattle.record.proofs.BodyLaws.{body_extends}
use Rattle.verdict.specs.Meaning.{Answer}
use Rattle.verdict.specs.Meaning.{Verdict}
use Rattle.verdict.specs.Meaning.{Refused, Taken, Passed, Dropped}
use Rattle.setup.specs.Meaning.{add_entry_of}
use Rattle.stage.specs.Meaning.{Bridge, Took, refused_of, lists_took, read_by, started_of, take_of}
use Rattle.run.specs.Input.Meaning.{NoRefusal, Front, begins, takes, Input}
use Rattle.promises.proofs.Refusals.Keeps.{Done, banks, lists, places, done_way, taken_uses_whole}
use Rattle.promises.specs.Pieces.Meaning.{calls_of}
use Rattle.promises.specs.Meaning.{Call, run_of, answers_of}

-- ---- no octet past the record is looked at

module _ (b : Bridge) (s t : List ℕ) where
  done_extends : (r : Record) (used : ℕ) (o : Call → Took) → Done b used r o → (1 ≤ used) × (used ≤ length s) → o (s ++ t) ≡ o s
  done_extends r used o (banks x keeps) k = refl
  done_extends r used o (lists x) k = ap (λ (body : List ℕ). lists_took b used (add_entry_of b.bank b.lists body x)) (body_extends s t used k.0 k.1)
  done_extends r used o (places full table) k = refl

  reading_extends : (rd : Reading) → read_of s (started_of b.bank) ≡ rd → read_by b (s ++ t) rd ≡ read_by b s rd
  unfolding read_by
  reading_extends (Err why) e = refl
  reading_extends (Ok (r, used)) e = done_extends r used _ (done_way b r used) (read_uses s (started_of b.bank) r used e)

  table_extends : (full : Bool) → (cond full (read_by b s (read_of s (started_of b.bank))) (refused_of b TableLength)).answer.verdict ≢ Refused CutShort
      → cond full (read_by b (s ++ t) (read_of (s ++ t) (started_of b.bank))) (refused_of b TableLength) ≡ cond full (read_by b s (read_of s (started_of b.bank))) (refused_of b TableLength)
  unfolding read_by
  table_extends true n =
      ap (read_by b (s ++ t)) (read_extends s t (started_of b.bank) (λ e. n (ap (λ (rd : Reading). (read_by b s rd).answer.verdict) e))) ∙ reading_extends (read_of s (started_of b.bank)) refl
  table_extends false n = refl

  -- what is not cut short is answered alike, and does the same, whatever octets follow it
  pub take_extends : (take_of b s).answer.verdict ≢ Refused CutShort → take_of b (s ++ t) ≡ take_of b s
  unfolding take_of
  take_extends = table_extends (eqb (length b.table) filter_count)

-- ---- an input, record by record

-- a record that is taken uses an octet at least, and none that isn't there
pub uses_some : (b : Bridge) (s : List ℕ) (o : Took) → take_of b s ≡ o → NoRefusal o.answer.verdict → (1 ≤ o.answer.used) × (o.answer.used ≤ length s)
uses_some b s o e h =
    let u = taken_uses_whole b s (λ why q. h why (ap (λ (x : Took). x.answer.verdict) (sym e) ∙ q)) in
    let used : o.answer.used ≡ record_length u.kind_said = ap (λ (x : Took). x.answer.used) (sym e) ∙ u.whole in
    let some = read_uses s (started_of b.bank) u.said u.length_said u.reads in
    (omega (arith, used, u.whole_said, some.0), omega (arith, used, u.whole_said, some.1))

-- a verdict is a refusal or none
pub by_refusal : {X : Type 0} (v : Verdict) → ((why : Refusal) → v ≡ Refused why → X) → (NoRefusal v → X) → X
by_refusal (Refused why) stops goes = stops why refl
by_refusal Taken stops goes = goes (λ why q. absurd (let z : ◌≡◌ {A = ℕ} 0 1 = cc in omega arith))
by_refusal (Passed p) stops goes = goes (λ why q. absurd (let z : ◌≡◌ {A = ℕ} 0 1 = cc in omega arith))
by_refusal (Dropped d) stops goes = goes (λ why q. absurd (let z : ◌≡◌ {A = ℕ} 0 1 = cc in omega arith))

-- every input comes to an end
pub record Ended (b : Bridge) (s : List ℕ) : Type 0 where
  pub answers : List Answer
  pub after : Bridge
  pub rest : List ℕ
  pub why : Refusal
  pub is : Input b s answers after rest why

module _ (b : Bridge) (s : List ℕ) where
  at_once : (why : Refusal) → (take_of b s).answer.verdict ≡ Refused why → Ended b s
  at_once why e = record { answers = []; after = b; rest = s; why = why; is = record { front = begins; refused = e } }

  goes_on : NoRefusal (take_of b s).answer.verdict → Ended (take_of b s).after (drop (take_of b s).answer.used s) → Ended b s
  goes_on h more = record {
    answers = (take_of b s).answer ∷ more.answers;
    after = more.after;
    rest = more.rest;
    why = more.why;
    is = record { front = takes (take_of b s) refl h more.is.front; refused = more.is.refused };
  }

ends_within : (n : ℕ) (b : Bridge) (s : List ℕ) → length s ≤ n → Ended b s
ends_within zero b s l = by_refusal (take_of b s).answer.verdict (at_once b s) (λ h. absurd (let u = uses_some b s (take_of b s) refl h in omega (arith, l, u.0, u.1)))
ends_within (suc n) b s l =
    by_refusal (take_of b s).answer.verdict (at_once b s)
    (λ h. goes_on b s h (ends_within n (take_of b s).after (drop (take_of b s).answer.used s) (omega (arith, l, (uses_some b s (take_of b s) refl h).0, length-drop (take_of b s).answer.used s))))

pub input_ends : (b : Bridge) (s : List ℕ) → Ended b s
input_ends b s = ends_within (length s) b s (omega arith)

-- what is taken of s is taken of s with t behind it
pub front_extends : (t : List ℕ) {b b' : Bridge} {s rest : List ℕ} {answers : List Answer} → Front b s answers b' rest → Front b (s ++ t) answers b' (rest ++ t)
front_extends t begins = begins
front_extends t {b = b} {b' = b'} {s = s} {rest = rest} (takes {answers = answers} o e h more) =
    takes o (take_extends b s t (λ q. h CutShort (ap (λ (x : Took). x.answer.verdict) (sym e) ∙ q)) ∙ e) h
    (subst (λ (u : List ℕ). Front o.after u answers b' (rest ++ t)) (sym (drop-append-le o.answer.used s t (uses_some b s o e h).1)) (front_extends t more))

-- and what is taken after it follows it
pub front_follows : {b b' b'' : Bridge} {s rest rest' : List ℕ} {answers answers' : List Answer} → Front b s answers b' rest → Front b' rest answers' b'' rest' → Front b s (answers ++ answers') b'' rest'
front_follows begins more = more
front_follows (takes o e h first) more = takes o e h (front_follows first more)

-- where a piece s leaves octets that are not taken, as a record that is cut short, and these go before the next piece t, the answers and the bridge
-- are those of s ++ t at once
pub piece_by_piece : (t : List ℕ) {b b' b'' : Bridge} {s rest rest' : List ℕ} {answers answers' : List Answer} {why : Refusal} → Front b s answers b' rest → Input b' (rest ++ t) answers' b'' rest' why
    → Input b (s ++ t) (answers ++ answers') b'' rest' why
piece_by_piece t first more = record { front = front_follows (front_extends t first) more.front; refused = more.refused }

-- and no other answers, bridge or end are those of the input
one_front : {b b' b'' : Bridge} {s rest rest' : List ℕ} {answers answers' : List Answer} {why why' : Refusal} → Front b s answers b' rest → Front b s answers' b'' rest' → (take_of b' rest).answer.verdict ≡ Refused why → (take_of b'' rest').answer.verdict ≡ Refused why'
    → (answers ≡ answers') × ((b' ≡ b'') × ((rest ≡ rest') × (why ≡ why')))
one_front begins begins e e' = let same : Refused _ ≡ Refused _ = sym e ∙ e' in (refl, (refl, (refl, cc)))
one_front begins (takes o q h more) e e' = absurd (h _ (ap (λ (x : Took). x.answer.verdict) (sym q) ∙ e))
one_front (takes o q h more) begins e e' = absurd (h _ (ap (λ (x : Took). x.answer.verdict) (sym q) ∙ e'))
one_front {b'' = b''} {s = s} {rest' = rest'} (takes o q h more) (takes {answers = answers'} o' q' h' more') e e' =
    let same : o' ≡ o = sym q' ∙ q in
    let rest = one_front more (subst (λ (x : Took). Front x.after (drop x.answer.used s) answers' b'' rest') same more') e e' in
    (ap (λ (all : List Answer). o.answer ∷ all) rest.0 ∙ ap (λ (x : Took). x.answer ∷ answers') (sym same), rest.1)

pub one_input : {b b' b'' : Bridge} {s rest rest' : List ℕ} {answers answers' : List Answer} {why why' : Refusal} → Input b s answers b' rest why → Input b s answers' b'' rest' why'
    → (answers ≡ answers') × ((b' ≡ b'') × ((rest ≡ rest') × (why ≡ why')))
one_input i i' = one_front i.front i'.front i.refused i'.refused

-- ---- an input is a history: the bridge and the answers are those of its calls
pub input_is_history : {b b' : Bridge} {s rest : List ℕ} {answers : List Answer} → Front b s answers b' rest → (run_of b (calls_of s answers) ≡ b') × (answers_of b (calls_of s answers) ≡ answers)
unfolding run_of answers_of
input_is_history begins = (refl, refl)
input_is_history {b = b} {s = s} (takes {answers = answers} o e h more) =
    let rest = input_is_history more in
    let calls = calls_of (drop o.answer.used s) answers in
    (ap (λ (x : Took). run_of x.after calls) e ∙ rest.0, ap (λ (x : Took). x.answer ∷ answers_of x.after calls) e ∙ ap (λ (all : List Answer). o.answer ∷ all) rest.1)
