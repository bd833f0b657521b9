-- The cases of a step, each from the facts that a step has in hand, and then the five ways in which a step can go.
use Rattle.std.specs.Prelude.{ℕ, ◌+◌, ◌-◌, ◌≤◌, ◌<◌, true, false, ◌||◌, Option, Some, None, List, ◌≡◌, refl, eqb, leb}
use Rattle.std.proofs.Common.{sym, ap, ◌∙◌}
use borrow.Author.Tests.{eq-eqb, ne_eqb, le-leb, lt-leb, eqb-true, leb-true}
use Rattle.std.proofs.lemmas.Option.{same_Some, none-some}
use Rattle.logic.specs.Laws.{if_by}
use Rattle.gate.specs.declared.Entry.{Entry}
use Rattle.gate.specs.declared.Found.{Found}
use Rattle.gate.specs.declared.Gate.{Gate}
use Rattle.gate.specs.declared.Stepped.{Stepped}
use Rattle.gate.specs.declared.Outcome.TheVariants.{Passed, Blocked, Closed, TooManyOctets}
use Rattle.gate.specs.Meaning.{no_limit, gate_answer, with_invalid_receive, with_octets, with_spent, spent_of, left_of, closed_of, limited_of, passed_of, in_force_of, gate_step_of}

module _ (g : Gate) where
  pub spent_same : (start : ℕ) → g.since ≡ start → spent_of g start ≡ g.spent
  unfolding spent_of
  spent_same start e = rw (eq-eqb g.since start e)

  pub spent_other : (start : ℕ) → (g.since ≡ start → ⊥) → spent_of g start ≡ 0
  unfolding spent_of
  spent_other start e = rw (ne_eqb g.since start e)

  module _ (f : Found) (n : ℕ) where
    pub limited_none : f.entry.maximum ≡ no_limit → limited_of g f n ≡ gate_answer g (Passed f.entry.ipv)
    unfolding limited_of
    limited_none e = rw (eq-eqb f.entry.maximum no_limit e)

    module _ (spent left : ℕ) (some : f.entry.maximum ≡ no_limit → ⊥) (s : spent ≡ spent_of g f.start) (l : left ≡ f.entry.maximum - spent) where
      pub limited_enough : n ≤ left → limited_of g f n ≡ gate_answer (with_spent g f.start (spent + n)) (Passed f.entry.ipv)
      unfolding limited_of
      limited_enough h = rw (ne_eqb f.entry.maximum no_limit some, ← s, ← l, le-leb n left h)

      pub limited_exceeded : left < n → limited_of g f n ≡ gate_answer (with_octets g) TooManyOctets
      unfolding limited_of
      limited_exceeded h = rw (ne_eqb f.entry.maximum no_limit some, ← s, ← l, lt-leb n left h)

  module _ (n : ℕ) where
    pub passed_record_open : g.opened ≡ true → passed_of g None n ≡ gate_answer g (Passed g.ipv)
    unfolding passed_of
    passed_record_open e = rw e

    pub passed_record_closed : g.opened ≡ false → passed_of g None n ≡ closed_of g
    unfolding passed_of
    passed_record_closed e = rw e

    pub passed_entry_open : (f : Found) → f.entry.opened ≡ true → passed_of g (Some f) n ≡ limited_of g f n
    unfolding passed_of
    passed_entry_open f e = rw e

    pub passed_entry_closed : (f : Found) → f.entry.opened ≡ false → passed_of g (Some f) n ≡ closed_of g
    unfolding passed_of
    passed_entry_closed f e = rw e

  module _ (es : List Entry) (t n : ℕ) where
    pub step_blocked : (g.invalid_receive_flag || g.octets_flag) ≡ true → gate_step_of g es t n ≡ gate_answer g Blocked
    unfolding gate_step_of
    step_blocked e = rw e

    pub step_unblocked : (g.invalid_receive_flag || g.octets_flag) ≡ false → gate_step_of g es t n ≡ passed_of g (in_force_of es g.base t) n
    unfolding gate_step_of
    step_unblocked e = rw e

-- ---- the ways

-- what a frame of n octets gets from the gate g, by what is in force: `free` is a pass without octet limit, `counted` one within it
pub data Way (g : Gate) (h : Option Found) (n : ℕ) : Stepped → Type 0 where
  blocked : Way g h n (gate_answer g Blocked)
  closed : Way g h n (gate_answer (with_invalid_receive g) Closed)
  exceeded : Way g h n (gate_answer (with_octets g) TooManyOctets)
  free : (p : ℕ) → ((f : Found) → h ≡ Some f → f.entry.maximum ≡ no_limit) → Way g h n (gate_answer g (Passed p))
  counted : (f : Found) → h ≡ Some f → n ≤ left_of g f → Way g h n (gate_answer (with_spent g f.start (spent_of g f.start + n)) (Passed f.entry.ipv))

limited_way : (g : Gate) (f : Found) (n : ℕ) → Way g (Some f) n (limited_of g f n)
unfolding limited_of
limited_way g f n =
    if_by (Way g (Some f) n) (eqb f.entry.maximum no_limit) _ _
    (λ e. free f.entry.ipv (λ f' q. ap (λ (x : Found). x.entry.maximum) (sym (same_Some f f' q)) ∙ eqb-true _ _ e))
    (λ e. if_by (Way g (Some f) n) (leb n (left_of g f)) _ _ (λ l. counted f refl (leb-true _ _ l)) (λ l. exceeded))

passed_way : (g : Gate) (h : Option Found) (n : ℕ) → Way g h n (passed_of g h n)
unfolding passed_of
passed_way g None n = if_by (Way g None n) g.opened _ _ (λ e. free g.ipv (λ f q. absurd (none-some f q))) (λ e. closed)
passed_way g (Some f) n = if_by (Way g (Some f) n) f.entry.opened _ _ (λ e. limited_way g f n) (λ e. closed)

pub step_way : (g : Gate) (es : List Entry) (t n : ℕ) → Way g (in_force_of es g.base t) n (gate_step_of g es t n)
unfolding gate_step_of
step_way g es t n = if_by (Way g (in_force_of es g.base t) n) (g.invalid_receive_flag || g.octets_flag) _ _ (λ e. blocked) (λ e. passed_way g _ n)
