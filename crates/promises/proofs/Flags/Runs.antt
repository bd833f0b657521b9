-- Demand 2, the flags: each of the four, once set, stands until a taken clear of that very flag and id, whatever else comes: every other kind of
-- record, any number of good frames, any time.
use Rattle.std.specs.Prelude.{ℕ, ◌<◌, Bool, true, false, List, [], ◌∷◌, ◌≡◌}
use Rattle.sizes.specs.Meaning.{filter_count, gate_count, meter_count}
use Rattle.bank.specs.Meaning.{counters, gate, meter, meter_is_set}
use Rattle.stage.specs.Meaning.{Bridge, take_of}
use Rattle.promises.specs.Meaning.{Call, Event, event_of, events_of, run_of, fresh}
use Rattle.promises.specs.Flags.Meaning.{clears, Never}
use Rattle.promises.proofs.Flags.Oversize.{oversize_stands}
use Rattle.promises.proofs.Flags.Gates.{invalid_receive_stands, octets_stands}
use Rattle.promises.proofs.Flags.Red.{red_stands}
use Rattle.promises.proofs.Flags.RedSetUp.{red_of_set_up}

-- what every call keeps but those of which a test holds, every sequence of calls without such a one keeps
run_keeps : (S : Bridge → Type 0) (test : Event → Bool) → ((b : Bridge) (c : Call) → S b → test (event_of b c) ≡ false → S (take_of b c).after) → (b : Bridge) (cs : List Call) → S b → Never test (events_of b cs) → S (run_of b cs)
unfolding events_of run_of
run_keeps S test one b [] h n = h
run_keeps S test one b (c ∷ cs) h n = run_keeps S test one (take_of b c).after cs (one b c h n.0) n.1

module _ (b : Bridge) (cs : List Call) (i : ℕ) where
  -- flag 1, of a filter
  pub oversize_stands_run : i < filter_count → (counters b.bank i).oversize ≡ true → Never (clears 1 i) (events_of b cs) → (counters (run_of b cs).bank i).oversize ≡ true
  oversize_stands_run small = run_keeps (λ x. (counters x.bank i).oversize ≡ true) (clears 1 i) (λ x c. oversize_stands x c i small) b cs

  -- flag 2, of a gate
  pub invalid_receive_stands_run : i < gate_count → (gate b.bank i).invalid_receive_flag ≡ true → Never (clears 2 i) (events_of b cs) → (gate (run_of b cs).bank i).invalid_receive_flag ≡ true
  invalid_receive_stands_run small = run_keeps (λ x. (gate x.bank i).invalid_receive_flag ≡ true) (clears 2 i) (λ x c. invalid_receive_stands x c i small) b cs

  -- flag 3, of a gate
  pub octets_stands_run : i < gate_count → (gate b.bank i).octets_flag ≡ true → Never (clears 3 i) (events_of b cs) → (gate (run_of b cs).bank i).octets_flag ≡ true
  octets_stands_run small = run_keeps (λ x. (gate x.bank i).octets_flag ≡ true) (clears 3 i) (λ x c. octets_stands x c i small) b cs

  -- flag 4, of a meter that is set up
  pub red_stands_run : i < meter_count → (meter_is_set b.bank i ≡ true) × ((meter b.bank i).red_flag ≡ true) → Never (clears 4 i) (events_of b cs)
      → (meter_is_set (run_of b cs).bank i ≡ true) × ((meter (run_of b cs).bank i).red_flag ≡ true)
  red_stands_run small =
      run_keeps (λ x. (meter_is_set x.bank i ≡ true) × ((meter x.bank i).red_flag ≡ true)) (clears 4 i) (λ x c h. red_stands x c i small h.0 h.1) b cs

-- and in every history from fresh: a red flag that stands there is that of a meter that is set up
pub red_stands_from_fresh : (before cs : List Call) (i : ℕ) → i < meter_count → (meter (run_of fresh before).bank i).red_flag ≡ true → Never (clears 4 i) (events_of (run_of fresh before) cs)
    → (meter (run_of (run_of fresh before) cs).bank i).red_flag ≡ true
red_stands_from_fresh before cs i small h never = (red_stands_run (run_of fresh before) cs i small (red_of_set_up before i h, h) never).1
