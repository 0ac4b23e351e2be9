-- How a part of a kind and the pieces of a rule are read, a step at a time.
use Rattle.std.proofs.Common.{◌≡◌, ◌≢◌, ℕ, suc, ◌-◌, ◌<◌, ◌≤◌, length, take, drop, get_or, List, [], ◌∷◌, Bool, Option, Some, None, refl, sym, ap, subst, ◌∙◌, arith}
use Rattle.std.proofs.lemmas.List.{take_all}
use Rattle.tokens.specs.Lexeme.{Lexeme}
use Rattle.syntax.specs.declared.piece.Kind.{Kind}
use Rattle.syntax.specs.declared.piece.Kind.TheVariants as kinds
use Rattle.syntax.specs.declared.piece.Piece.{Piece}
use Rattle.syntax.specs.declared.piece.Fields.{Fields}
use Rattle.syntax.specs.declared.form.Form.{Form}
use Rattle.syntax.specs.declared.form.Form.TheVariants as forms
use Rattle.syntax.specs.declared.operator.Operator.{Operator}
use Rattle.syntax.specs.declared.operator.Operator.TheVariants as operators
use Rattle.syntax.specs.Operators.{behind}
use Rattle.syntax.specs.Rules.{rule}
use Rattle.syntax.specs.Grammar.{Syntax}
use Rattle.syntax.specs.Parsing.{◌>>=◌, Found, Reader, back, climb, front, go_on, may_open, operand, read_in, reader, reads, row, step}
use Rattle.syntax.proofs.Branches.{some_row}
use Rattle.syntax.proofs.Steps.{reads_step}

-- ---- the pieces of a rule

pub row_ends : (read : Reader) (opening : Bool) (ps : List Piece) (parts : List Syntax) (toks : List Lexeme) → length ps < 1 → row read opening ps parts toks ≡ some_row parts toks
unfolding row
row_ends read opening [] parts toks h = refl
row_ends read opening (p ∷ ps) parts toks h = absurd (omega (arith, h))

pub row_turn : (read : Reader) (opening : Bool) (ps : List Piece) (d : Piece) (parts : List Syntax) (toks : List Lexeme) → 1 ≤ length ps → row read opening ps parts toks ≡ (step read opening (get_or ps 0 d) parts toks >>= λ y. row read opening (take (length ps - 1) (drop 1 ps)) y.0 y.1)
unfolding row
row_turn read opening [] d parts toks h = absurd (omega (arith, h))
row_turn read opening (p ∷ ps) d parts toks h = ap (λ (qs : List Piece). step read opening p parts toks >>= λ y. row read opening qs y.0 y.1) (sym (take_all (suc (length ps) - 1) ps (omega arith)))

-- ---- no rule has more than 9 pieces

front_length : (f : Form) → length (front f) ≤ 9
unfolding front
front_length forms.Set = omega arith
front_length forms.Range = omega arith
front_length forms.Channels = omega arith
front_length forms.ChannelsWithFields = omega arith
front_length f = omega arith

back_length : (m : Fields) (f : Form) → length (back m f) ≤ 9
unfolding back rule
back_length m forms.Event = omega arith
back_length m (forms.Operation op) = omega arith
back_length m f = omega arith

behind_length : (op : Operator) → length (behind op) ≤ 9
unfolding behind
behind_length operators.Renaming = omega arith
behind_length op = omega arith

pub front_short : (f : Form) (ps : List Piece) → ps ≡ front f → length ps ≤ 9
front_short f ps e = subst (λ (qs : List Piece). length qs ≤ 9) (sym e) (front_length f)

pub back_short : (m : Fields) (f : Form) (ps : List Piece) → ps ≡ back m f → length ps ≤ 9
back_short m f ps e = subst (λ (qs : List Piece). length qs ≤ 9) (sym e) (back_length m f)

pub behind_short : (op : Operator) (ps : List Piece) → ps ≡ behind op → length ps ≤ 9
behind_short op ps e = subst (λ (qs : List Piece). length qs ≤ 9) (sym e) (behind_length op)

-- ---- a part of a kind

module _ (b r t : ℕ) (k : Kind) (toks : List Lexeme) (room : r ≢ 0) (layers : t ≢ 0) where
  abbrev first : Option Found
  first = operand (reader b (r - 1) 4) (reader b r (t - 1)) (may_open b) k toks

  read_first : reads b r t k toks ≡ (first >>= go_on (reader b (r - 1) 4) (may_open b) r k)
  unfolding read_in
  read_first = reads_step b r t k toks (omega (arith, room)) (omega (arith, layers))

  pub read_fails : first ≡ None → reads b r t k toks ≡ None
  read_fails e = read_first ∙ ap (λ o. o >>= go_on (reader b (r - 1) 4) (may_open b) r k) e

  pub read_climbs : (x : Found) (l : ℕ) → first ≡ Some x → k ≡ kinds.Phrase l → reads b r t k toks ≡ climb (reader b (r - 1) 4) (may_open b) r l r x.0 x.1
  unfolding go_on
  read_climbs x l e is = read_first ∙ ap (λ o. o >>= go_on (reader b (r - 1) 4) (may_open b) r k) e ∙ ap (λ k. go_on (reader b (r - 1) 4) (may_open b) r k x) is

  ends : (x : Found) (k : Kind) → ((l : ℕ) → k ≢ kinds.Phrase l) → go_on (reader b (r - 1) 4) (may_open b) r k x ≡ Some x
  unfolding go_on
  ends x (kinds.Phrase l) other = absurd (other l refl)
  ends x k other = refl

  pub read_ends : (x : Found) → first ≡ Some x → ((l : ℕ) → k ≢ kinds.Phrase l) → reads b r t k toks ≡ Some x
  read_ends x e other = read_first ∙ ap (λ o. o >>= go_on (reader b (r - 1) 4) (may_open b) r k) e ∙ ends x k other
