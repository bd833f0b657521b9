-- Kind 4: of the lists of all gates, what is the list of one before and after an entry that is taken.
use Rattle.std.specs.Prelude.{ℕ, suc, ◌+◌, ◌*◌, ◌%◌, ◌≤◌, ◌<◌, Bool, List, [], ◌∷◌, ◌++◌, ◌≢◌, ◌≡◌, refl, length, get_or, drop, Ok}
use Rattle.std.proofs.Common.{sym, ap, subst, ◌∙◌, arith, zero-add, get_or-drop}
use Rattle.sizes.specs.Meaning.{gate_count, entry_count, entry_octets, list_octets, lists_octets}
use Rattle.gate.specs.declared.Entry.{Entry}
use Rattle.gate.specs.Meaning.{entry_at, entries_from}
use Rattle.record.specs.declared.GateEntryRecord.{GateEntryRecord}
use Rattle.record.specs.Meaning.{body_in, read_of}
use Rattle.bank.specs.Meaning.{Rows, load, entries}
use Rattle.bank.proofs.Store.{get_d_load, length_store}
use Rattle.setup.specs.Meaning.{Listed, entry_body_of, entry_place, add_entry_of}
use Rattle.setup.proofs.Cases.{entry_taken}
use Rattle.setup.proofs.Laws.{entry_body, entry_list_other, entry_before}
use Rattle.promises.specs.Past.Meaning.{entry_of}
use Rattle.promises.proofs.Past.Entries.{entry_kept, entry_agrees, entries_agree, entries_more}
use Rattle.promises.proofs.Past.Agrees.{InRange}
use Rattle.record.specs.declared.Record.TheVariants as kind

-- octets that are loaded alike are alike
loaded_alike : (ws ws' : List ℕ) (at n : ℕ) → load ws at 0 n ≡ load ws' at 0 n → (j : ℕ) → j < n → get_or ws (at + j) 0 ≡ get_or ws' (at + j) 0
loaded_alike ws ws' at n e j h =
    let z : at + (0 + j) ≡ at + j = omega arith in
    ap (λ (i : ℕ). get_or ws i 0) (sym z) ∙ sym (get_d_load ws at 0 n j h) ∙ ap (λ (l : List ℕ). get_or l j 0) e ∙ get_d_load ws' at 0 n j h ∙ ap (λ (i : ℕ). get_or ws' i 0) z

module _ (s : Rows) (lists c : List ℕ) (x : GateEntryRecord) (whole : length lists ≡ lists_octets) (ranged : InRange (kind.GateEntry x)) (room : entries s x.gate < entry_count) where
  abbrev lists' : List ℕ
  lists' = (add_entry_of s lists c x).lists

  pub lists_whole : length lists' ≡ lists_octets
  lists_whole = ap (λ (t : Listed). length t.lists) (entry_taken s lists c x _ refl room) ∙ length_store lists (entry_place x.gate (entries s x.gate)) 0 (entry_body_of c) ∙ whole

  -- another gate's list is as it was
  pub other_list : (i n : ℕ) → i < gate_count → n ≤ entry_count → x.gate ≢ i → entries_from (drop (i * list_octets) lists') 0 n ≡ entries_from (drop (i * list_octets) lists) 0 n
  other_list i n h l ne =
      let same : load lists' (i * list_octets) 0 list_octets ≡ load lists (i * list_octets) 0 list_octets = rw (low i h) at (entry_list_other s lists c x room i (λ e. ne (omega (arith, e, h, ranged.ranges)))) in
      entries_agree (drop (i * list_octets) lists') (drop (i * list_octets) lists) 0 n
      (λ j m. get_or-drop (i * list_octets) lists' j 0 ∙ loaded_alike lists' lists (i * list_octets) list_octets same j (omega (arith, m, l)) ∙ sym (get_or-drop (i * list_octets) lists j 0))
    where
      low : (i : ℕ) → i < gate_count → i % gate_count ≡ i
      low i h = omega arith

  -- its own has the entry behind the others
  pub own_list : (call : List ℕ) (started : Bool) (used : ℕ) → c ≡ body_in call used → read_of call started ≡ Ok (kind.GateEntry x, used)
      → entries_from (drop (x.gate * list_octets) lists') 0 (suc (entries s x.gate)) ≡ entries_from (drop (x.gate * list_octets) lists) 0 (entries s x.gate) ++ (entry_of x ∷ [])
  own_list call started used shown said =
      let n = entries s x.gate in
      let at = x.gate * list_octets in
      let here : x.gate % gate_count ≡ x.gate = omega (arith, ranged.ranges) in
      let before : load lists' at 0 (n * entry_octets) ≡ load lists at 0 (n * entry_octets) = subst (λ (g : ℕ). load lists' (g * list_octets) 0 (n * entry_octets) ≡ load lists (g * list_octets) 0 (n * entry_octets)) here (entry_before s lists c x room) in
      let body : load lists' (at + n * entry_octets) 0 entry_octets ≡ entry_body_of c = subst (λ (g : ℕ). load lists' (g * list_octets + n * entry_octets) 0 entry_octets ≡ entry_body_of c) here (entry_body s lists c x room whole) in
      let front = entries_agree (drop at lists') (drop at lists) 0 n (λ j m. get_or-drop at lists' j 0 ∙ loaded_alike lists' lists at (n * entry_octets) before j (omega (arith, m)) ∙ sym (get_or-drop at lists j 0)) in
      let last : entry_at (drop at lists') (0 + n) ≡ entry_of x =
      ap (entry_at (drop at lists')) (zero-add n) ∙ entry_agrees (drop at lists') (entry_body_of c) n 0 (λ j m. get_or-drop at lists' (n * entry_octets + j) 0 ∙ octet at n j ∙ sym (get_d_load lists' (at + n * entry_octets) 0 entry_octets j m) ∙ ap (λ (l : List ℕ). get_or l j 0) body ∙ ap (λ (i : ℕ). get_or (entry_body_of c) i 0) (sym (zero-add j))) ∙ ap (λ (l : List ℕ). entry_at (entry_body_of l) 0) shown ∙ entry_kept call started x used said in
      entries_more (drop at lists') 0 n ∙ ap (λ (l : List Entry). l ++ (entry_at (drop at lists') (0 + n) ∷ [])) front ∙ ap (λ (e : Entry). entries_from (drop at lists) 0 n ++ (e ∷ [])) last
    where
      octet : (at n j : ℕ) → get_or lists' (at + (n * entry_octets + j)) 0 ≡ get_or lists' (at + n * entry_octets + (0 + j)) 0
      octet at n j = let e : at + (n * entry_octets + j) ≡ at + n * entry_octets + (0 + j) = omega arith in ap (λ (i : ℕ). get_or lists' i 0) e
