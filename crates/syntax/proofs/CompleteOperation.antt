-- Where the tokens are those of an operation, reading comes to the point where it was read.
use Rattle.std.proofs.Common.{◌≡◌, ℕ, suc, ◌<◌, ◌≤◌, List, [], ◌∷◌, ◌++◌, Bool, true, false, not, Option, Some, refl, sym, ap, subst, ◌∙◌, append_assoc, arith, ◌&&◌, ◌||◌, inl}
use Rattle.std.specs.Prelude.{nat_le}
use Rattle.std.proofs.Math.Nat.{le-max_left, le-max_right}
use Rattle.tokens.specs.Lexeme.{Lexeme}
use Rattle.syntax.specs.declared.operator.Operator.{Operator}
use Rattle.syntax.specs.declared.operator.Operator.TheVariants as operators
use Rattle.syntax.specs.declared.piece.Fields.TheVariants as fields
use Rattle.syntax.specs.declared.piece.Piece.{Piece}
use Rattle.syntax.specs.declared.form.Form.TheVariants as forms
use Rattle.syntax.specs.Operators.{opening, behind, level, left_limit, right_limit, opens}
use Rattle.syntax.specs.Rules.{rule, form_level, is_heavy, ending}
use Rattle.syntax.specs.Grammar.{Syntax, Called, Numeral, Node, Syntaxes, NoSyntax, MoreSyntax, flat, spell, spell_signs, spell_part, height_of, highest, nesting, nests, nests_part, opens_any, is, is_open, last_open, level_in, left_fits, wants, Fits, FitAll}
use Rattle.syntax.specs.Parsing.{is_sign, begins_field, grown, may_begin, reader, may_open}
use Rattle.syntax.proofs.Sound.{spell_sign, spell_open}
use Rattle.syntax.proofs.Branches.{some_found, grown_is}
use Rattle.syntax.proofs.Climbing.{Stops, climb_goes}
use Rattle.syntax.proofs.Steps.{may_open_some}
use Rattle.syntax.proofs.Table.{operator_row, ends_before}
use Rattle.syntax.proofs.CompleteBools.{false_true, both_true, or_true}
use Rattle.syntax.proofs.CompleteFollow.{quiet, quiet_symbol, calm, Behind, closes}
use Rattle.syntax.proofs.CompleteFirst.{left_level, fits_sign, fits_open}
use Rattle.syntax.proofs.CompleteGoal.{AllRead, Comes, edge, spine, start, rank, is_read_kind}
use Rattle.syntax.proofs.CompleteTall.{tall}
use Rattle.syntax.proofs.CompleteRow.{listed, syntaxes_listed, linked, ranked, joins, separates, ends_with, halts, continues, wants_shut, shutting, Tail, tall_pieces, row_complete, fewer_nests, fewer_nests_open}
use Rattle.syntax.proofs.CompleteNode.{has_inside, inside_nests}

-- ---- what comes after an operator's first token

behind_linked : (op : Operator) → linked 4 (behind op) ≡ true
unfolding linked ranked joins separates ends_with halts continues rank is_read_kind closes quiet quiet_symbol is_sign behind right_limit
behind_linked operators.Renaming = refl
behind_linked op = refl

behind_tall : (op : Operator) → tall_pieces (behind op) ≡ true
unfolding tall_pieces tall behind
behind_tall operators.Renaming = refl
behind_tall op = refl

behind_opens : (op : Operator) → opens_any (behind op) ≡ false
unfolding behind
behind_opens operators.Renaming = refl
behind_opens op = refl

behind_shutting : (op : Operator) → shutting (behind op) ≡ false
unfolding behind shutting wants_shut
behind_shutting operators.Renaming = refl
behind_shutting op = refl

behind_inside : (op : Operator) → opens op ≡ true → has_inside (behind op) ≡ true
unfolding behind opens has_inside
behind_inside operators.Renaming e = refl
behind_inside operators.Sharing e = refl
behind_inside operators.Alphabetised e = refl
behind_inside op e = absurd cc

operation_tail : (op : Operator) (p : Syntax) (us : Syntaxes) (rest : List Lexeme) → FitAll us (behind op) → Behind fields.Any (is_open (Node (forms.Operation op) (MoreSyntax p us))) rest → Stops (right_limit op) rest → Tail (behind op) (last_open us) rest
unfolding behind right_limit is_open ending last_open
operation_tail operators.Renaming p us rest fits h s = tt
operation_tail op p NoSyntax rest fits h s = absurd (false_true fits)
operation_tail op p (MoreSyntax u us) rest fits h s = (h, s)

opening_fits : (op : Operator) (us : Syntaxes) (ps : List Piece) → FitAll us (opening op ∷ ps) → FitAll us ps
unfolding opening
opening_fits operators.Renaming us ps h = fits_open us _ ps h
opening_fits operators.Sharing us ps h = fits_open us _ ps h
opening_fits operators.Alphabetised us ps h = fits_open us _ ps h
opening_fits op us ps h = fits_sign us _ ps h

opening_nests : (op : Operator) (us : Syntaxes) (ps : List Piece) → nests us ps ≤ nests us (opening op ∷ ps)
unfolding opening
opening_nests operators.Renaming us ps = fewer_nests_open us _ ps
opening_nests operators.Sharing us ps = fewer_nests_open us _ ps
opening_nests operators.Alphabetised us ps = fewer_nests_open us _ ps
opening_nests op us ps = fewer_nests us _ ps

opening_spelled : (op : Operator) (us : Syntaxes) (ps : List Piece) → spell us (opening op ∷ ps) ≡ spell_signs (opening op ∷ []) ++ spell us ps
unfolding opening spell_signs
opening_spelled operators.Renaming us ps = spell_open us _ ps
opening_spelled operators.Sharing us ps = spell_open us _ ps
opening_spelled operators.Alphabetised us ps = spell_open us _ ps
opening_spelled op us ps = spell_sign us _ ps

opening_calm : (op : Operator) (toks : List Lexeme) → calm (spell_signs (opening op ∷ []) ++ toks) ≡ true
unfolding opening spell_signs calm
opening_calm operators.Renaming toks = refl
opening_calm op toks = refl

opening_fieldless : (op : Operator) (toks : List Lexeme) → begins_field fields.Any (spell_signs (opening op ∷ []) ++ toks) ≡ false
unfolding opening spell_signs begins_field
opening_fieldless operators.Renaming toks = refl
opening_fieldless op toks = refl

-- ---- what stands on the left of an operator ends before it

gap : (op : Operator) → (2 ≤ left_limit op → 2 < level op) × (6 ≤ left_limit op → 6 < level op)
unfolding level left_limit
gap operators.Renaming = (λ e. absurd (omega (arith, e)), λ e. absurd (omega (arith, e)))
gap operators.Times = (λ e. omega arith, λ e. absurd (omega (arith, e)))
gap operators.Remainder = (λ e. omega arith, λ e. absurd (omega (arith, e)))
gap operators.Plus = (λ e. omega arith, λ e. absurd (omega (arith, e)))
gap operators.Minus = (λ e. omega arith, λ e. absurd (omega (arith, e)))
gap operators.Equal = (λ e. omega arith, λ e. absurd (omega (arith, e)))
gap operators.NotEqual = (λ e. omega arith, λ e. absurd (omega (arith, e)))
gap operators.Less = (λ e. omega arith, λ e. absurd (omega (arith, e)))
gap operators.LessOrEqual = (λ e. omega arith, λ e. absurd (omega (arith, e)))
gap operators.Greater = (λ e. omega arith, λ e. absurd (omega (arith, e)))
gap operators.GreaterOrEqual = (λ e. omega arith, λ e. absurd (omega (arith, e)))
gap op = (λ e. omega arith, λ e. omega arith)

edge_before : (p : Syntax) (op : Operator) → level_in p ≤ left_limit op → edge p < level op
unfolding edge level_in form_level
edge_before (Called n) op h = (operator_row op).tight
edge_before (Numeral n) op h = (operator_row op).tight
edge_before (Node (forms.Operation inner) ts) op h = ends_before inner op h
edge_before (Node forms.Negation ts) op h = (gap op).0 h
edge_before (Node forms.Not ts) op h = (gap op).1 h
edge_before (Node f ts) op h = (operator_row op).tight

abbrev some_of : (Operator × List Lexeme) → Option (Operator × List Lexeme)
some_of x = Some x

same_first : (x y : Operator × List Lexeme) → some_of x ≡ some_of y → x.0 ≡ y.0
same_first x y e = cc

left_ends : (op : Operator) (p : Syntax) (toks : List Lexeme) → level_in p ≤ left_limit op → Stops (edge p) (spell_signs (opening op ∷ []) ++ toks)
left_ends op p toks h found rest e =
    subst (λ (x : Operator). edge p < level x) (same_first (op, toks) (found, rest) (sym ((operator_row op).known toks) ∙ e)) (edge_before p op h)

left_shut : (op : Operator) (p : Syntax) → left_fits op p ≡ true → is_open p ≡ true → ⊥
unfolding left_fits
left_shut op p e o =
    let h = both_true (nat_le (level_in p) (left_limit op)) (wants op p && not (is_open p)) e in
    let j = both_true (wants op p) (not (is_open p)) h.1 in
    both_ways (is_open p) o j.1
  where
    both_ways : (b : Bool) → b ≡ true → not b ≡ true → ⊥
    both_ways true e f = cc
    both_ways false e f = cc

-- ---- an operation

grown_reads : (b r : ℕ) (op : Operator) (p : Syntax) (us : Syntaxes) (rest : List Lexeme) → AllRead us → FitAll us (behind op) → highest us ≤ r → nests us (behind op) ≤ b → Tail (behind op) (last_open us) rest → grown (reader b r 4) (may_open b) op p (spell us (behind op) ++ rest) ≡ some_found (Node (forms.Operation op) (MoreSyntax p us)) rest
grown_reads b r op p us rest read fits high nested tail =
    grown_is (reader b r 4) (may_open b) op p (Node (forms.Operation op) (MoreSyntax p us)) (spell us (behind op) ++ rest) rest (behind op) (p ∷ []) (p ∷ listed us) refl refl
    (row_complete b r 4 (behind op) (last_open us) rest us (p ∷ []) (inl (behind_tall op)) (behind_linked op) (λ o. absurd (false_true (sym (behind_opens op) ∙ o))) read fits high nested (λ w. absurd (false_true (sym (behind_shutting op) ∙ w))) tail (λ l. refl))
    (ap (λ (ts : Syntaxes). Node (forms.Operation op) (MoreSyntax p ts)) (sym (syntaxes_listed us)))

may_begin_there : (b : ℕ) (op : Operator) (us : Syntaxes) → FitAll us (behind op) → nests us (behind op) ≤ b → may_begin (may_open b) op ≡ true
unfolding may_begin
may_begin_there b op us fits nested = at (opens op) refl
  where
    at : (o : Bool) → opens op ≡ o → (may_open b || not (opens op)) ≡ true
    at true e = ap (λ (c : Bool). c || not (opens op)) (may_open_some b (omega (arith, nested, inside_nests (behind op) us (behind_inside op e) fits)))
    at false e = ap (λ (c : Bool). may_open b || not c) e ∙ or_true (may_open b)

pub comes_operation : (op : Operator) (p : Syntax) (us : Syntaxes) → Fits (Node (forms.Operation op) (MoreSyntax p us)) → Comes p → AllRead us → Comes (Node (forms.Operation op) (MoreSyntax p us))
unfolding flat rule spell spell_part spine edge level_in form_level nesting nests nests_part is is_heavy
comes_operation op p us fits comes read b r layers l m n rest loosest low high nested h s e =
    let left : left_fits op p ≡ true = fits.1.1.0 in
    let fit = opening_fits op us (behind op) fits.1.1.1 in
    let lp : level_in p ≤ left_limit op = left_level op p left in
    let toks = spell us (behind op) ++ rest in
    let next = spell_signs (opening op ∷ []) ++ toks in
    let hp : height_of p ≤ r = omega (arith, high, le-max_left (height_of p) (highest us)) in
    let hu : highest us ≤ r = omega (arith, high, le-max_right (height_of p) (highest us)) in
    let np : nesting p ≤ b = omega (arith, nested, le-max_left (nesting p) (nests us (opening op ∷ behind op))) in
    let nu : nests us (behind op) ≤ b = omega (arith, nested, le-max_right (nesting p) (nests us (opening op ∷ behind op)), opening_nests op us (behind op)) in
    let spelled : (flat p ++ spell us (opening op ∷ behind op)) ++ rest ≡ flat p ++ next =
    append_assoc (flat p) (spell us (opening op ∷ behind op)) rest
    ∙ ap (λ (xs : List Lexeme). flat p ++ (xs ++ rest)) (opening_spelled op us (behind op))
    ∙ ap (λ (xs : List Lexeme). flat p ++ xs) (append_assoc (spell_signs (opening op ∷ [])) (spell us (behind op)) rest) in
    ap (start b r layers l m) spelled
    ∙ comes b r layers l m (suc n) next loosest (omega (arith, lp, (operator_row op).left, low)) (omega (arith, hp)) np (opening_calm op toks, opening_fieldless op toks, λ o. absurd (left_shut op p left o)) (left_ends op p toks lp) (omega (arith, e))
    ∙ climb_goes (reader b r 4) (may_open b) (suc r) l n p (Node (forms.Operation op) (MoreSyntax p us)) op toks rest low left (omega (arith, hp)) (may_begin_there b op us fit nu)
    (grown_reads b r op p us rest read fit hu nu (operation_tail op p us rest fit h s))
