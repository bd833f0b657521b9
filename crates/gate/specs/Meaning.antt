-- What a gate and its control list mean, in the words of document 01: the octets of kind 4, "Gate lists", and step 3 of "A frame's path".
-- Times and intervals are nanoseconds, lengths and maxima octets of MSDU.
use Rattle.std.specs.Prelude.{ℕ, zero, suc, ◌+◌, ◌-◌, ◌*◌, ◌/◌, ◌%◌, ◌≤◌, min, Bool, not, cond, ◌||◌, ◌&&◌, Option, Some, None, List, [], ◌∷◌, ltb, leb, eqb, length, get_or}
use Rattle.gate.specs.declared.Entry.{Entry}
use Rattle.gate.specs.declared.Found.{Found}
use Rattle.gate.specs.declared.Gate.{Gate}
use Rattle.gate.specs.declared.Stepped.{Stepped}
use Rattle.gate.specs.declared.Outcome.{Outcome}
use Rattle.gate.specs.declared.Outcome.TheVariants.{Passed, Blocked, Closed, TooManyOctets}
use Rattle.sizes.specs.Meaning.{entry_octets, entry_count}

-- ---- 01, Records, kind 4: gate, state, IPV, interval w4, octet maximum w4, eleven octets in all

-- four octets from k on, the first the most significant
abbrev pub word_of : List ℕ → ℕ → ℕ
word_of s k = get_or s k 0 * 16_777_216 + get_or s (k + 1) 0 * 65_536 + get_or s (k + 2) 0 * 256 + get_or s (k + 3) 0

-- the i-th entry; a state that is not 0 is open
abbrev pub entry_at : List ℕ → ℕ → Entry
entry_at s i = record {
  opened = not (eqb (get_or s (i * entry_octets + 1) 0) 0);
  ipv = get_or s (i * entry_octets + 2) 0;
  interval = word_of s (i * entry_octets + 3);
  maximum = word_of s (i * entry_octets + 7);
}

-- n entries from the i-th on
unfoldable pub entries_from : List ℕ → ℕ → ℕ → List Entry
entries_from s i zero = []
entries_from s i (suc n) = entry_at s i ∷ entries_from s (suc i) n

-- the entries of a list: of its whole ones the first eight
abbrev pub entries_in : List ℕ → ℕ
entries_in s = min (length s / entry_octets) entry_count

abbrev pub entries_of : List ℕ → List Entry
entries_of s = entries_from s 0 (entries_in s)

-- ---- 01, Gate lists

-- "the cycle is the sum of intervals"
unfoldable pub cycle_of : List Entry → ℕ
cycle_of [] = 0
cycle_of (e ∷ es) = e.interval + cycle_of es

-- The entry in whose interval x falls, x being counted from the start of the first interval of es, whose number is i.
-- "An interval owns its first nanosecond, not its last boundary": x below the interval. It began x before the time t.
unfoldable pub found_of : ℕ → List Entry → ℕ → ℕ → Option Found
found_of t [] i x = None
found_of t (e ∷ es) i x = cond (ltb x e.interval) (Some (record { index = i; start = t - x; entry = e })) (found_of t es (suc i) (x - e.interval))

-- "With no entries, or before base time" nothing is in force. "From base time the entries repeat": whole cycles are taken off.
-- (Where the cycle is 0 no entry has a length, and none is found at any x.)
unfoldable pub in_force_of : List Entry → ℕ → ℕ → Option Found
in_force_of es base t = cond (ltb t base) None (found_of t es 0 ((t - base) % cycle_of es))

-- ---- 01, A frame's path, step 3

-- the number of a drop, and 0 for a frame that passes
abbrev pub gate_number_of : Outcome → ℕ
gate_number_of (Passed ipv) = 0
gate_number_of Blocked = 3
gate_number_of Closed = 4
gate_number_of TooManyOctets = 5

abbrev pub gate_answer : Gate → Outcome → Stepped
gate_answer g o = record { gate = g; outcome = o }

-- an octet maximum that is none
abbrev pub no_limit : ℕ
no_limit = 4_294_967_295

-- The octets that have passed in the interval that began at start: those counted where it is the one counted, else none.
unfoldable pub spent_of : Gate → ℕ → ℕ
spent_of g start = cond (eqb g.since start) g.spent 0

-- "Octets left start at the entry's maximum in every interval of every cycle."
abbrev pub left_of : Gate → Found → ℕ
left_of g f = f.entry.maximum - spent_of g f.start

-- the same gate with other flags and another count: all that a frame or a clear ever changes
abbrev pub gate_holding : Gate → Bool → Bool → ℕ → ℕ → Gate
gate_holding g invalidReceive octets since spent = record {
  opened = g.opened;
  ipv = g.ipv;
  invalid_receive_block = g.invalid_receive_block;
  octets_block = g.octets_block;
  base = g.base;
  invalid_receive_flag = invalidReceive;
  octets_flag = octets;
  since = since;
  spent = spent;
}

-- the gate with the invalid-receive flag set if that block is enabled, with the octets flag likewise, and with n octets passed since start
abbrev pub with_invalid_receive : Gate → Gate
with_invalid_receive g = gate_holding g (g.invalid_receive_flag || g.invalid_receive_block) g.octets_flag g.since g.spent

abbrev pub with_octets : Gate → Gate
with_octets g = gate_holding g g.invalid_receive_flag (g.octets_flag || g.octets_block) g.since g.spent

abbrev pub with_spent : Gate → ℕ → ℕ → Gate
with_spent g start n = gate_holding g g.invalid_receive_flag g.octets_flag start n

-- "State closed: drop 4, setting the invalid-receive flag if that block is enabled."
abbrev pub closed_of : Gate → Stepped
closed_of g = gate_answer (with_invalid_receive g) Closed

-- "MSDU greater than the octets left: drop 5, setting only the octets flag if enabled. .. Otherwise .. subtract MSDU from the octets left. ..
-- equal passes, leaving 0."
unfoldable pub limited_of : Gate → Found → ℕ → Stepped
limited_of g f n =
    cond (eqb f.entry.maximum no_limit) (gate_answer g (Passed f.entry.ipv))
    (cond (leb n (left_of g f))
    (gate_answer (with_spent g f.start (spent_of g f.start + n)) (Passed f.entry.ipv))
    (gate_answer (with_octets g) TooManyOctets))

-- by the state in force: the record's "without octet limit", or the entry's
unfoldable pub passed_of : Gate → Option Found → ℕ → Stepped
passed_of g None n = cond g.opened (gate_answer g (Passed g.ipv)) (closed_of g)
passed_of g (Some f) n = cond f.entry.opened (limited_of g f n) (closed_of g)

-- a frame of n octets at t: "Invalid-receive or octets flag standing: drop 3"
unfoldable pub gate_step_of : Gate → List Entry → ℕ → ℕ → Stepped
gate_step_of g es t n = cond (g.invalid_receive_flag || g.octets_flag) (gate_answer g Blocked) (passed_of g (in_force_of es g.base t) n)

-- ---- frames one after another

pub record Frame : Type 0 where
  pub time : ℕ
  pub octets : ℕ

-- the gate after them
unfoldable pub gate_after : Gate → List Entry → List Frame → Gate
gate_after g es [] = g
gate_after g es (a ∷ more) = gate_after (gate_step_of g es a.time a.octets).gate es more

-- times that do not go back, from u on
pub data Ordered : ℕ → List Frame → Type 0 where
  none : {u : ℕ} → Ordered u []
  next : {u : ℕ} {a : Frame} {more : List Frame} → u ≤ a.time → Ordered a.time more → Ordered u (a ∷ more)

-- t lies in the interval in which f is in force
abbrev pub in_interval : Found → ℕ → Bool
in_interval f t = not (ltb t f.start) && ltb t (f.start + f.entry.interval)

-- the octets of a frame that passed
abbrev pub octets_passed : Outcome → ℕ → ℕ
octets_passed (Passed ipv) n = n
octets_passed Blocked n = 0
octets_passed Closed n = 0
octets_passed TooManyOctets n = 0

-- the octets that pass in that interval
unfoldable pub passed_in : Found → Gate → List Entry → List Frame → ℕ
passed_in f g es [] = 0
passed_in f g es (a ∷ more) =
    cond (in_interval f a.time) (octets_passed (gate_step_of g es a.time a.octets).outcome a.octets) 0 + passed_in f (gate_step_of g es a.time a.octets).gate es more
