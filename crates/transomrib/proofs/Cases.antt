-- The cases of `if_in_table` and `chosen_of`, each from what tells it from the others.
use Rattle.std.specs.Prelude.{ℕ, ◌≤◌, ◌<◌, ◌≡◌}
use mir.Val.{bool_byte}
use borrow.Author.Tests.{lt-ltb, le-ltb, ne_eqb}
use Rattle.sizes.specs.Meaning.{filter_count, gate_count, meter_count, port_count}
use Rattle.gate.specs.declared.Gate.{Gate}
use Rattle.meter.specs.declared.Meter.{Meter}
use Rattle.bank.specs.declared.Counters.{Counters}
use Rattle.bank.specs.declared.Port.{Port}
use Rattle.transomrib.specs.Meaning.{if_in_table, chosen_of}

module _ (i size n : ℕ) where
  pub in_table_lem : i < size → if_in_table i size n ≡ n
  in_table_lem h = rw (lt-ltb _ _ h)

  pub past_table : size ≤ i → if_in_table i size n ≡ 0
  past_table h = rw (le-ltb _ _ h)

-- none of 1 to 11
abbrev pub Others : ℕ → Type 0
Others n = (((((((((((Unit {0} × (n ≡ 1 → ⊥)) × (n ≡ 2 → ⊥)) × (n ≡ 3 → ⊥)) × (n ≡ 4 → ⊥)) × (n ≡ 5 → ⊥)) × (n ≡ 6 → ⊥)) × (n ≡ 7 → ⊥)) × (n ≡ 8 → ⊥)) × (n ≡ 9 → ⊥)) × (n ≡ 10 → ⊥)) × (n ≡ 11 → ⊥))

module _ (what i : ℕ) (c : Counters) (g : Gate) (m : Meter) (p : Port) where
  pub chosen_1 : what ≡ 1 → chosen_of what i c g m p ≡ if_in_table i filter_count c.matching
  unfolding chosen_of
  chosen_1 e = rw e

  pub chosen_2 : what ≡ 2 → chosen_of what i c g m p ≡ if_in_table i filter_count c.passing_sdu
  unfolding chosen_of
  chosen_2 e = rw e

  pub chosen_3 : what ≡ 3 → chosen_of what i c g m p ≡ if_in_table i filter_count c.not_passing_sdu
  unfolding chosen_of
  chosen_3 e = rw e

  pub chosen_4 : what ≡ 4 → chosen_of what i c g m p ≡ if_in_table i filter_count c.passing
  unfolding chosen_of
  chosen_4 e = rw e

  pub chosen_5 : what ≡ 5 → chosen_of what i c g m p ≡ if_in_table i filter_count c.not_passing
  unfolding chosen_of
  chosen_5 e = rw e

  pub chosen_6 : what ≡ 6 → chosen_of what i c g m p ≡ if_in_table i filter_count c.red
  unfolding chosen_of
  chosen_6 e = rw e

  pub chosen_7 : what ≡ 7 → chosen_of what i c g m p ≡ if_in_table i filter_count (bool_byte c.oversize)
  unfolding chosen_of
  chosen_7 e = rw e

  pub chosen_8 : what ≡ 8 → chosen_of what i c g m p ≡ if_in_table i gate_count (bool_byte g.invalid_receive_flag)
  unfolding chosen_of
  chosen_8 e = rw e

  pub chosen_9 : what ≡ 9 → chosen_of what i c g m p ≡ if_in_table i gate_count (bool_byte g.octets_flag)
  unfolding chosen_of
  chosen_9 e = rw e

  pub chosen_10 : what ≡ 10 → chosen_of what i c g m p ≡ if_in_table i meter_count (bool_byte m.red_flag)
  unfolding chosen_of
  chosen_10 e = rw e

  pub chosen_11 : what ≡ 11 → chosen_of what i c g m p ≡ if_in_table i port_count p.discarded
  unfolding chosen_of
  chosen_11 e = rw e

  pub chosen_none : Others what → chosen_of what i c g m p ≡ 0
  unfolding chosen_of
  chosen_none o = rw (ne_eqb what 1 o.0.0.0.0.0.0.0.0.0.0.1, ne_eqb what 2 o.0.0.0.0.0.0.0.0.0.1, ne_eqb what 3 o.0.0.0.0.0.0.0.0.1, ne_eqb what 4 o.0.0.0.0.0.0.0.1, ne_eqb what 5 o.0.0.0.0.0.0.1, ne_eqb what 6 o.0.0.0.0.0.1, ne_eqb what 7 o.0.0.0.0.1, ne_eqb what 8 o.0.0.0.1, ne_eqb what 9 o.0.0.1, ne_eqb what 10 o.0.1, ne_eqb what 11 o.1)
