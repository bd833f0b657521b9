-- What the code writes a line from: a form, a text in which capital letters, its marks, stand for values.
use Rattle.std.specs.Prelude.{ℕ, cond, ◌&&◌, eqb}
use Rattle.std.specs.Char.{is_ascii_uppercase}
use Prim.Native.Char.{code}
use mathlib.Core.List.{List, [], ◌∷◌, ◌++◌}
use Rattle.text.specs.Meaning.{ascii, digits_of}

-- a value at its mark
unfoldable pub shown_as : ℕ → ℕ → List ℕ
shown_as c v =
    cond (eqb c (code "A") && eqb v 8) (ascii "any")
    (cond (eqb c (code "U") && eqb v 8) (ascii "null")
    (cond (eqb c (code "Z") && eqb v 0) (ascii "none") (cond (eqb c (code "L") && eqb v 255) (ascii "none") (cond (eqb c (code "M") && eqb v 4_294_967_295) (ascii "none") (digits_of v)))))

-- the handle of a filter
abbrev pub handle_as : ℕ → ℕ → List ℕ
handle_as any handle = cond (eqb any 1) (ascii "any") (digits_of handle)

-- a form, its marks in turn replaced by the values, as far as these go
unfoldable pub filled_in : List ℕ → List ℕ → List ℕ
filled_in [] vs = []
filled_in (c ∷ cs) [] = c ∷ filled_in cs []
filled_in (c ∷ cs) (v ∷ vs) = cond (is_ascii_uppercase c) (shown_as c v) (c ∷ []) ++ filled_in cs (cond (is_ascii_uppercase c) vs (v ∷ vs))
