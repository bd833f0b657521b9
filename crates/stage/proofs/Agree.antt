-- The plan by which a call can be done (`specs/Plan.antt`: read, ask the table at most twice, decide without it) comes to the same as `take_of`.
-- The code does not go by it.
use Rattle.std.specs.Prelude.{ℕ, Bool, true, false, List, ◌≡◌, refl, length, set, Ok, Err}
use Rattle.std.proofs.Math.Bool.{cond}
use Rattle.std.proofs.Common.{sym, ◌∙◌, arith, eq-eqb, ne_eqb}
use Rattle.std.proofs.Math.Path.{ap}
use Rattle.std.proofs.Math.Seq.{set_out}
use Rattle.sizes.specs.Meaning.{filter_count}
use Rattle.record.specs.declared.Record.{Record}
use Rattle.record.specs.declared.Record.TheVariants as kind
use Rattle.record.specs.declared.FilterRecord.{FilterRecord}
use Rattle.record.specs.declared.Refusal.TheVariants.{TableLength, SetUpAlready}
use Rattle.record.specs.Meaning.{Reading, read_of}
use Rattle.bank.specs.Meaning.{Rows}
use Rattle.filter.specs.declared.Filter.{Filter}
use Rattle.filter.specs.Meaning.{Found, is_filter_of, no_row, row_of, search_of}
use Rattle.filter.proofs.SearchLaws.{search_one}
use Rattle.verdict.specs.Meaning.{Verdict, Refused, Taken, Passed, Dropped, Answer}
use Rattle.path.specs.Meaning.{arrival_of}
use Rattle.setup.specs.Meaning.{start_of, clear_of}
use Rattle.stage.specs.Meaning.{Took, bridge, took, answered, refused_of, filter_of, taken_of, read_by, started_of, take_of, bank_took as takes}
use Rattle.stage.specs.Plan.{Plan, Done, one_row_asked, first_asked, second_asked, plan_by, plan_of, row_in, Settled, settled, kept, placed_of, taken_by, decided_of}

-- a verdict is answered with itself
pub answered_is : (used : ℕ) (v : Verdict) → answered used v ≡ record { used = (answered used v).used; verdict = v }
answered_is used (Refused r) = refl
answered_is used Taken = refl
answered_is used (Passed p) = refl
answered_is used (Dropped d) = refl

module _ (table : List Filter) (s : Rows) (lists input : List ℕ) where
  pub take-length : (length table ≡ filter_count → ⊥) → took table s lists (answered 0 (Refused TableLength)) ≡ take_of (bridge table s lists) input
  unfolding take_of
  take-length h = rw (ne_eqb _ _ h)

  -- what is settled, with its row stored
  abbrev put : Settled → Took
  put t = took (set table t.done.at t.done.row) t.bank t.lists t.done.answer

  module _ (full : length table ≡ filter_count) where
    -- that place is past the table's end
    unset : (row : Filter) → set table filter_count row ≡ table
    unset row = set_out table filter_count row (omega arith)

    kept_put : (t : Rows) (l : List ℕ) (a : Answer) → took (set table filter_count no_row) t l a ≡ took table t l a
    kept_put t l a = ap (λ (rows : List Filter). took rows t l a) (unset no_row)

    -- the row that a filter's record and a clear look at
    row_at : (hit : Found) (id : ℕ) → hit ≡ search_of s (one_row_asked id) table → row_in hit ≡ row_of table id
    row_at hit id eh = ap row_in (eh ∙ search_one s (one_row_asked id) table refl refl)

    placed : (r : FilterRecord) (used : ℕ) (b : Bool)
        → put (settled s lists (cond b (kept used (Refused SetUpAlready)) (record { at = r.id; row = filter_of r; answer = answered used Taken })))
        ≡ cond b (refused_of (bridge table s lists) SetUpAlready) (took (set table r.id (filter_of r)) s lists (answered used Taken))
    placed r used true = kept_put s lists (answered 0 (Refused SetUpAlready))
    placed r used false = refl

    by_record : (r : Record) (used : ℕ) (miss hit : Found) → miss ≡ search_of s (first_asked r) table → hit ≡ search_of s (second_asked r) table
        → put (taken_by s lists input r used miss hit) ≡ taken_of (bridge table s lists) input r used
    unfolding taken_by taken_of placed_of
    by_record (kind.Port r) used miss hit em eh = kept_put _ _ _
    by_record (kind.Filter r) used miss hit em eh = placed r used (is_filter_of (row_in hit)) ∙ ap (λ (f : Filter). cond (is_filter_of f) (refused_of (bridge table s lists) SetUpAlready) (took (set table r.id (filter_of r)) s lists (answered used Taken))) (row_at hit r.id eh)
    by_record (kind.Gate r) used miss hit em eh = kept_put _ _ _
    by_record (kind.GateEntry r) used miss hit em eh = kept_put _ _ _
    by_record (kind.Meter r) used miss hit em eh = kept_put _ _ _
    by_record (kind.Group r) used miss hit em eh = kept_put _ _ _
    by_record (kind.Scheduler r) used miss hit em eh = kept_put _ _ _
    by_record (kind.Start r) used miss hit em eh = kept_put _ _ _ ∙ ap (λ (m : Found). takes (bridge table s lists) used (start_of s r m hit)) em ∙ ap (λ (h : Found). takes (bridge table s lists) used (start_of s r (search_of s (first_asked (kind.Start r)) table) h)) eh
    by_record (kind.Arrival a) used miss hit em eh = kept_put _ _ _ ∙ ap (λ (h : Found). takes (bridge table s lists) used (arrival_of s lists a h)) eh
    by_record (kind.Clear r) used miss hit em eh = kept_put _ _ _ ∙ ap (λ (f : Filter). takes (bridge table s lists) used (clear_of s r f)) (row_at hit r.id eh)

    by_reading : (rd : Reading) (miss hit : Found) → miss ≡ search_of s (plan_by rd).first table → hit ≡ search_of s (plan_by rd).second table
        → put (decided_of s lists input (plan_by rd).reading miss hit) ≡ read_by (bridge table s lists) input rd
    unfolding decided_of read_by
    by_reading (Err r) miss hit em eh = kept_put s lists (answered 0 (Refused r))
    by_reading (Ok (r, used)) miss hit em eh = by_record r used miss hit em eh

    takes_so : take_of (bridge table s lists) input ≡ read_by (bridge table s lists) input (read_of input (started_of s))
    unfolding take_of
    takes_so = rw (eq-eqb _ _ full)

  pub take_is : length table ≡ filter_count → (p : Plan) → p ≡ plan_of s input → (miss : Found) → miss ≡ search_of s p.first table → (hit : Found) → hit ≡ search_of s p.second table
      → (s' : Rows) (lists' : List ℕ) (d : Done) → settled s' lists' d ≡ decided_of s lists input p.reading miss hit
      → took (set table d.at d.row) s' lists' d.answer ≡ take_of (bridge table s lists) input
  take_is full p ep miss em hit eh s' lists' d e =
      let em' : miss ≡ search_of s (plan_of s input).first table = em ∙ ap (λ (q : Plan). search_of s q.first table) ep in
      let eh' : hit ≡ search_of s (plan_of s input).second table = eh ∙ ap (λ (q : Plan). search_of s q.second table) ep in
      let e' : settled s' lists' d ≡ decided_of s lists input (plan_of s input).reading miss hit = e ∙ ap (λ (q : Plan). decided_of s lists input q.reading miss hit) ep in
      ap put e' ∙ by_reading full (read_of input (started_of s)) miss hit em' eh' ∙ sym (takes_so full)
