-- The room of a line: where there are places enough, all of it is put, octet by octet after what is filled; and no line needs more of them than
-- are kept for it (`line_room`).
use Rattle.std.specs.Prelude.{ℕ, zero, suc, ◌+◌, ◌-◌, ◌*◌, ◌/◌, ◌%◌, ◌^◌, ◌<◌, ◌≤◌, Bool, true, List, [], ◌∷◌, ◌++◌, ◌≡◌, refl, leb, ltb, length, set, take, drop}
use Rattle.std.proofs.Common.{append_assoc, sym, ap, ◌∙◌, arith, add-one, leb-true, ltb-true, ltb-false, length-set}
use Rattle.std.proofs.Math.ListN.{length-append}
use Rattle.std.proofs.lemmas.List.Edits.{sets, sets-eq}
use borrow.Rule.Slice.PartMut.{put_mid, Post-is}
use Rattle.logic.specs.Laws.{by_test, if_by}
use Rattle.verdict.specs.declared.Drop.{Drop}
use Rattle.verdict.specs.declared.Drop.TheVariants.{OversizeBlocked, Oversize, GateBlocked, GateClosed, GateOctets, Yellow, Red, Residence}
use Rattle.verdict.specs.declared.Pass.{Pass}
use Rattle.verdict.specs.Meaning.{drop_number_of}
use Rattle.text.specs.Meaning.{Page, page, put_of, written, digits_of, ascii, time_of, pass_line_of, drop_line_of, end_line_of, refused_line_of, line_room}
use Rattle.text.proofs.Laws.{put_in, digits_one, digits_more}

-- ---- a line that has places enough is put whole

-- the octets with a line from place `filled` on, in place of as many others; and the place after it
abbrev pub whole_line : List ℕ → ℕ → List ℕ → Page
whole_line octets filled line = page (take filled octets ++ line ++ drop (filled + length line) octets) (filled + length line)

stored : (line octets : List ℕ) (filled : ℕ) → filled + length line ≤ length octets → written (page octets filled) line ≡ page (sets octets filled line) (filled + length line)
unfolding written
stored [] octets filled l = rw (let z : filled + 0 ≡ filled = omega arith in z)
stored (v ∷ line) octets filled l =
    ap (λ (p : Page). written p line) (sym (put_in octets filled v (omega (arith, l))))
    ∙ ap (λ (k : ℕ). written (page (set octets filled v) k) line) (add-one filled)
    ∙ stored line (set octets filled v) (suc filled) (omega (arith, l, length-set octets filled v))
    ∙ ap (page (sets (set octets filled v) (suc filled) line)) (next filled (length line))
  where
    next : (m n : ℕ) → suc m + n ≡ m + suc n
    next m n = omega arith

pub written_whole : (octets : List ℕ) (filled : ℕ) (line : List ℕ) → filled + length line ≤ length octets → written (page octets filled) line ≡ whole_line octets filled line
written_whole octets filled line l = stored line octets filled l ∙ ap (λ (xs : List ℕ). page xs (filled + length line)) (sets-eq line octets filled l)

-- so it is what a part of the buffer takes at once
pub put_whole : (octets : List ℕ) (filled : ℕ) (line : List ℕ) → filled + length line ≤ length octets
    → page (put_mid filled (filled + length line - filled) octets line) (filled + length line) ≡ written (page octets filled) line
put_whole octets filled line l =
    let end = filled + length line in
    sym
    (written_whole octets filled line l
    ∙ ap (λ (xs : List ℕ). page xs end)
    (append_assoc (take filled octets) line (drop end octets) ∙ ap (λ (xs : List ℕ). take filled octets ++ (line ++ xs)) (sym (Post-is filled end octets (omega arith)))))

-- with places or without, a line moves the place by no more than its octets
pub written_moves : (line : List ℕ) (p : Page) → (written p line).filled ≤ p.filled + length line
unfolding written put_of
written_moves [] p = omega arith
written_moves (v ∷ line) p = omega (arith, written_moves line (put_of p v), moved)
  where
    moved : (put_of p v).filled ≤ p.filled + 1
    moved = if_by (λ (q : Page). q.filled ≤ p.filled + 1) (ltb p.filled (length p.octets)) _ p (λ e. omega arith) (λ e. omega arith)

-- and the buffer keeps its length
pub length_written : (line : List ℕ) (p : Page) → length (written p line).octets ≡ length p.octets
unfolding written put_of
length_written [] p = refl
length_written (v ∷ line) p = length_written line (put_of p v) ∙ kept
  where
    kept : length (put_of p v).octets ≡ length p.octets
    kept = if_by (λ (q : Page). length q.octets ≡ length p.octets) (ltb p.filled (length p.octets)) _ p (λ e. length-set p.octets p.filled v) (λ e. refl)

pub written_ends : (out : List ℕ) (end n : ℕ) (p : Page) (line : List ℕ) → page out end ≡ written p line → length line ≤ n → end ≤ p.filled + n
written_ends out end n p line e l = omega (arith, ap (λ (q : Page). q.filled) e, written_moves line p, l)

-- ---- the digits of a number

-- 10^k
abbrev pub tens : ℕ → ℕ
tens zero = 1
tens (suc k) = tens k * 10

-- a number below 10^(k + 1) has at most k + 1
pub digits_most : (k n : ℕ) → n < tens (suc k) → length (digits_of n) ≤ suc k
digits_most zero n l = omega (arith, ap length (digits_one n (omega (arith, l))))
digits_most (suc k) n l =
    by_test (ltb n 10) (λ e. omega (arith, ap length (digits_one n (ltb-true n 10 e))))
    (λ e.
    let fewer : n / 10 < tens (suc k) = omega (arith, l) in
    omega (arith, ap length (digits_more n (ltb-false n 10 e)), length-append (digits_of (n / 10)) ((n % 10 + 48) ∷ []), digits_most k (n / 10) fewer))

module _ (n : ℕ) where
  pub digits_8 : n < 2 ^ 8 → length (digits_of n) ≤ 3
  digits_8 l = digits_most 2 n (omega (arith, l))

  pub digits_64 : n < 2 ^ 64 → length (digits_of n) ≤ 20
  digits_64 l = digits_most 19 n (omega (arith, l))

-- ---- the lines: no number in them is wider than the code has it

time_room : (timed : Bool) (n : ℕ) → n < 2 ^ 64 → length (time_of timed n) ≤ 20
time_room timed n l = if_by (λ (xs : List ℕ). length xs ≤ 20) timed (digits_of n) (ascii "-") (λ e. digits_64 n l) (λ e. omega arith)

drop_number_room : (d : Drop) → length (digits_of (drop_number_of d)) ≤ 3
drop_number_room d = digits_8 (drop_number_of d) (small d)
  where
    small : (d : Drop) → drop_number_of d < 2 ^ 8
    small OversizeBlocked = omega arith
    small Oversize = omega arith
    small GateBlocked = omega arith
    small GateClosed = omega arith
    small GateOctets = omega arith
    small Yellow = omega arith
    small Red = omega arith
    small Residence = omega arith

module _ (arrival : ℕ) (l : arrival < 2 ^ 64) where
  pub pass_room : (p : Pass) → p.priority < 2 ^ 8 → p.class < 2 ^ 8 → p.drop_mark < 2 ^ 8 → p.eligible < 2 ^ 64 → length (pass_line_of arrival p) ≤ line_room
  unfolding pass_line_of
  pass_room p a b c e =
      simp length-append (omega (arith, digits_64 arrival l, digits_8 p.priority a, digits_8 p.class b, digits_8 p.drop_mark c, time_room p.timed p.eligible e))

  pub drop_room : (d : Drop) → length (drop_line_of arrival d) ≤ line_room
  unfolding drop_line_of
  drop_room d = simp length-append (omega (arith, digits_64 arrival l, drop_number_room d))

pub end_room : (records : ℕ) → records < 2 ^ 64 → length (end_line_of records) ≤ line_room
unfolding end_line_of
end_room records l = simp length-append (omega (arith, digits_64 records l))

pub refused_room : (number offset : ℕ) → number < 2 ^ 8 → offset < 2 ^ 64 → length (refused_line_of number offset) ≤ line_room
unfolding refused_line_of
refused_room number offset l m = simp length-append (omega (arith, digits_8 number l, digits_64 offset m))

-- ---- so a line is put whole wherever the room for a line is left

pub room_whole : (octets : List ℕ) (filled : ℕ) (line : List ℕ) → length line ≤ line_room → leb (filled + line_room) (length octets) ≡ true → written (page octets filled) line ≡ whole_line octets filled line
room_whole octets filled line l e = written_whole octets filled line (omega (arith, l, leb-true (filled + line_room) (length octets) e))
