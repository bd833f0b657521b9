-- Demand 2, the counters: over every sequence of calls from fresh, each is the count of its own predicate (`Meaning.antt`) over what the calls
-- did, modulo 2^64; the two equations of document 01 follow.
use Rattle.std.specs.Prelude.{ℕ, ◌+◌, ◌%◌, ◌<◌, Bool, true, false, List, [], ◌∷◌, ◌≡◌}
use Rattle.std.proofs.Math.Path.{refl}
use Rattle.std.proofs.Common.{◌∙◌, arith}
use Rattle.sizes.specs.Meaning.{filter_count, port_count}
use Rattle.bank.specs.Meaning.{counters, port}
use Rattle.verdict.specs.declared.Drop.TheVariants.{OversizeBlocked, Oversize, GateBlocked, GateClosed, GateOctets, Yellow, Red, Residence}
use Rattle.verdict.specs.Meaning.{Verdict}
use Rattle.verdict.specs.Meaning.{Refused, Taken, Passed, Dropped}
use Rattle.stage.specs.Meaning.{Bridge, take_of}
use Rattle.promises.specs.Meaning.{Call, Event, event_of, events_of, run_of, fresh}
use Rattle.promises.specs.Counters.Meaning.{uses_of, matching_in, passing_sdu_in, not_passing_sdu_in, passing_in, not_passing_in, matching, passing_sdu, not_passing_sdu, passing, not_passing, red, discarded, one_if, count_of, wrap}
use Rattle.promises.proofs.Counters.Tally.{counted, call_tally}
use Rattle.promises.proofs.Counters.Discards.{call_discards}

-- ---- what moves by a predicate at each call is its count at the end

moved : (t : Bool) (n m rest : ℕ) → n < wrap → m ≡ counted t n → (m < wrap) × ((m + rest) % wrap ≡ (n + (one_if t + rest)) % wrap)
moved true n m rest small e = (omega arith, omega arith)
moved false n m rest small e = (omega arith, omega arith)

run_counts : (get : Bridge → ℕ) (test : Event → Bool) → ((b : Bridge) (c : Call) → get (take_of b c).after ≡ counted (test (event_of b c)) (get b)) → (b : Bridge) (cs : List Call) → get b < wrap
    → get (run_of b cs) ≡ (get b + count_of test (events_of b cs)) % wrap
unfolding run_of events_of count_of
run_counts get test one b [] small = omega arith
run_counts get test one b (c ∷ cs) small =
    let step = moved (test (event_of b c)) (get b) (get (take_of b c).after) (count_of test (events_of (take_of b c).after cs)) small (one b c) in
    run_counts get test one (take_of b c).after cs step.0 ∙ step.1

fresh_counts : (get : Bridge → ℕ) (test : Event → Bool) → ((b : Bridge) (c : Call) → get (take_of b c).after ≡ counted (test (event_of b c)) (get b)) → get fresh ≡ 0 → (cs : List Call) → get (run_of fresh cs) ≡ count_of test (events_of fresh cs) % wrap
fresh_counts get test one none cs = let e = run_counts get test one fresh cs (omega (arith, none)) in omega (arith, e, none)

-- ---- the counters of filter f

module _ (cs : List Call) (f : ℕ) (small : f < filter_count) where
  pub matching_counted : (counters (run_of fresh cs).bank f).matching ≡ count_of (matching f) (events_of fresh cs) % wrap
  unfolding fresh
  matching_counted = fresh_counts (λ b. (counters b.bank f).matching) (matching f) (λ b c. (call_tally b c f small).by_matching) refl cs

  pub passing_sdu_counted : (counters (run_of fresh cs).bank f).passing_sdu ≡ count_of (passing_sdu f) (events_of fresh cs) % wrap
  unfolding fresh
  passing_sdu_counted = fresh_counts (λ b. (counters b.bank f).passing_sdu) (passing_sdu f) (λ b c. (call_tally b c f small).by_passing_sdu) refl cs

  pub not_passing_sdu_counted : (counters (run_of fresh cs).bank f).not_passing_sdu ≡ count_of (not_passing_sdu f) (events_of fresh cs) % wrap
  unfolding fresh
  not_passing_sdu_counted = fresh_counts (λ b. (counters b.bank f).not_passing_sdu) (not_passing_sdu f) (λ b c. (call_tally b c f small).by_not_passing_sdu) refl cs

  pub passing_counted : (counters (run_of fresh cs).bank f).passing ≡ count_of (passing f) (events_of fresh cs) % wrap
  unfolding fresh
  passing_counted = fresh_counts (λ b. (counters b.bank f).passing) (passing f) (λ b c. (call_tally b c f small).by_passing) refl cs

  pub not_passing_counted : (counters (run_of fresh cs).bank f).not_passing ≡ count_of (not_passing f) (events_of fresh cs) % wrap
  unfolding fresh
  not_passing_counted = fresh_counts (λ b. (counters b.bank f).not_passing) (not_passing f) (λ b c. (call_tally b c f small).by_not_passing) refl cs

  pub red_counted_lem : (counters (run_of fresh cs).bank f).red ≡ count_of (red f) (events_of fresh cs) % wrap
  unfolding fresh
  red_counted_lem = fresh_counts (λ b. (counters b.bank f).red) (red f) (λ b c. (call_tally b c f small).by_red) refl cs

-- DiscardedFrames of port p
pub discarded_counted : (cs : List Call) (p : ℕ) → p < port_count → (port (run_of fresh cs).bank p).discarded ≡ count_of (discarded p) (events_of fresh cs) % wrap
unfolding fresh
discarded_counted cs p small = fresh_counts (λ b. (port b.bank p).discarded) (discarded p) (λ b c. call_discards b c p small) refl cs

-- ---- the two equations

count_splits : (all one two : Event → Bool) → ((e : Event) → one_if (all e) ≡ one_if (one e) + one_if (two e)) → (es : List Event) → count_of all es ≡ count_of one es + count_of two es
unfolding count_of
count_splits all one two h [] = refl
count_splits all one two h (e ∷ es) = omega (arith, h e, count_splits all one two h es)

sdu_splits : (m : Bool) (v : Verdict) → one_if (matching_in m v) ≡ one_if (passing_sdu_in m v) + one_if (not_passing_sdu_in m v)
sdu_splits false v = refl
sdu_splits true (Refused why) = refl
sdu_splits true Taken = refl
sdu_splits true (Passed p) = refl
sdu_splits true (Dropped OversizeBlocked) = refl
sdu_splits true (Dropped Oversize) = refl
sdu_splits true (Dropped GateBlocked) = refl
sdu_splits true (Dropped GateClosed) = refl
sdu_splits true (Dropped GateOctets) = refl
sdu_splits true (Dropped Yellow) = refl
sdu_splits true (Dropped Red) = refl
sdu_splits true (Dropped Residence) = refl

gate_splits : (m : Bool) (v : Verdict) → one_if (passing_sdu_in m v) ≡ one_if (passing_in m v) + one_if (not_passing_in m v)
gate_splits false v = refl
gate_splits true (Refused why) = refl
gate_splits true Taken = refl
gate_splits true (Passed p) = refl
gate_splits true (Dropped OversizeBlocked) = refl
gate_splits true (Dropped Oversize) = refl
gate_splits true (Dropped GateBlocked) = refl
gate_splits true (Dropped GateClosed) = refl
gate_splits true (Dropped GateOctets) = refl
gate_splits true (Dropped Yellow) = refl
gate_splits true (Dropped Red) = refl
gate_splits true (Dropped Residence) = refl

adds : (m p n x y z : ℕ) → m ≡ x % wrap → p ≡ y % wrap → n ≡ z % wrap → x ≡ y + z → m ≡ (p + n) % wrap
adds m p n x y z e₁ e₂ e₃ e = omega arith

module _ (cs : List Call) (f : ℕ) (small : f < filter_count) where
  -- Matching = PassingSDU + NotPassingSDU, modulo 2^64
  pub matching_adds_up : (counters (run_of fresh cs).bank f).matching ≡ ((counters (run_of fresh cs).bank f).passing_sdu + (counters (run_of fresh cs).bank f).not_passing_sdu) % wrap
  matching_adds_up =
      let es = events_of fresh cs in
      let split = count_splits (matching f) (passing_sdu f) (not_passing_sdu f) (λ e. sdu_splits (uses_of f e.filter) e.verdict) es in
      adds _ _ _ _ _ _ (matching_counted cs f small) (passing_sdu_counted cs f small) (not_passing_sdu_counted cs f small) split

  -- PassingSDU = Passing + NotPassing, modulo 2^64
  pub passing_sdu_adds_up : (counters (run_of fresh cs).bank f).passing_sdu ≡ ((counters (run_of fresh cs).bank f).passing + (counters (run_of fresh cs).bank f).not_passing) % wrap
  passing_sdu_adds_up =
      let es = events_of fresh cs in
      let split = count_splits (passing_sdu f) (passing f) (not_passing f) (λ e. gate_splits (uses_of f e.filter) e.verdict) es in
      adds _ _ _ _ _ _ (passing_sdu_counted cs f small) (passing_counted cs f small) (not_passing_counted cs f small) split
