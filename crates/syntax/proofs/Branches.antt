-- What the branches of the code show, on plain lists.
use Rattle.std.proofs.Common.{◌≡◌, ℕ, zero, suc, ◌-◌, ◌<◌, ◌≤◌, List, [], ◌∷◌, ◌++◌, Bool, true, false, Option, Some, None, Result, Err, if◌then◌else◌, refl, sym, ap, subst, ◌∙◌, arith, ◌⊎◌, inl, inr}
use Rattle.std.specs.Prelude.{nat_lt}
use Rattle.std.proofs.lemmas.Bool.{lt-ltb, le-ltb}
use Rattle.tokens.specs.Lexeme.{Lexeme}
use Rattle.tokens.specs.declared.read_error.ReadError.{ReadError}
use Rattle.syntax.specs.declared.operator.Operator.{Operator}
use Rattle.syntax.specs.declared.piece.Fields.{Fields}
use Rattle.syntax.specs.declared.piece.Kind.{Kind}
use Rattle.syntax.specs.declared.piece.Place.{Place}
use Rattle.syntax.specs.declared.piece.Place.TheVariants as places
use Rattle.syntax.specs.declared.piece.Start.{Start}
use Rattle.syntax.specs.declared.piece.Piece.{Piece}
use Rattle.syntax.specs.declared.form.Form.{Form}
use Rattle.syntax.specs.declared.form.Form.TheVariants as forms
use Rattle.syntax.specs.Operators.{behind}
use Rattle.syntax.specs.Grammar.{Syntax, Node, height_of}
use Rattle.syntax.specs.Parsing.{◌>>=◌, Found, Row, Reader, syntaxes, last_is_open, another, keep, put, others_on, others, row, back, front, turned, node_of, node_on, node, next_operator, may_begin, grown, climb_on, climb, reads, reader}
use Rattle.syntax.specs.Answers.{Fails, Gives}
use Rattle.syntax.proofs.Failing.{fails_none, fails_on}
use Rattle.syntax.proofs.Steps.{inside_none, inside_step}

abbrev pub some_found : Syntax → List Lexeme → Option Found
some_found t rest = Some (t, rest)

abbrev pub some_row : List Syntax → List Lexeme → Option Row
some_row ts rest = Some (ts, rest)

-- ---- failing

pub gives_as : {X Y : Type 0} (view : X → Y) (result : Result X ReadError) (r s : Option Y) → r ≡ s → Gives view result s → Gives view result r
gives_as {Y = Y} view result r s e g = subst (λ (o : Option Y). Gives view result o) (sym e) g

-- ---- signs

abbrev pub kept : Bool → List Syntax → Option (List Lexeme) → Option Row
kept may parts rest = if may then rest >>= keep parts else None

pub kept_reads : (may : Bool) (o : Option (List Lexeme)) (parts : List Syntax) (rest : List Lexeme) → may ≡ true → o ≡ Some rest → kept may parts o ≡ some_row parts rest
kept_reads true o parts rest m e = ap (λ (o : Option (List Lexeme)). o >>= keep parts) e
kept_reads false o parts rest m e = absurd cc

pub kept_fails : (e : ReadError) (may : Bool) (o : Option (List Lexeme)) (parts : List Syntax) → Fails e o → Fails e (kept may parts o)
kept_fails e true o parts h = fails_on e o (o >>= keep parts) (λ n. ap (λ (o : Option (List Lexeme)). o >>= keep parts) n) h
kept_fails e false o parts h = fails_none e (kept false parts o) refl

-- ---- one part more

pub added_fails : {X : Type 0} (view : X → Found) (found : Result X ReadError) (e : ReadError) (wanted : Option Found) (parts : List Syntax) → found ≡ Err e → Gives view found wanted → Fails e (wanted >>= put parts)
added_fails view found e wanted parts is h =
    fails_on e wanted (wanted >>= put parts) (λ n. ap (λ (o : Option Found). o >>= put parts) n) (subst (λ r. Gives view r wanted) is h)

-- ---- places

pub inside_fails : (b r t : ℕ) (place : Place) (k : Kind) (toks : List Lexeme) → place ≡ places.Inside → b ≡ 0 → reader b r t place k toks ≡ None
inside_fails b r t place k toks e z = ap (λ (p : Place). reader b r t p k toks) e ∙ inside_none b r k toks z

pub inside_reads : (b r t : ℕ) (place : Place) (k : Kind) (toks : List Lexeme) → place ≡ places.Inside → (b ≡ 0 → ⊥) → reader b r t place k toks ≡ reads (b - 1) r 4 k toks
inside_reads b r t place k toks e z = ap (λ (p : Place). reader b r t p k toks) e ∙ inside_step b r k toks (omega (arith, z))

-- ---- further parts

pub others_stop : (part : List Lexeme → Option Found) (start : Start) (n : ℕ) (parts : List Syntax) (toks : List Lexeme) (greedy : Bool) → greedy ≡ last_is_open parts → None ≡ another start greedy toks → others part start n parts toks ≡ some_row parts toks
unfolding others
others_stop part start zero parts toks greedy g e = refl
others_stop part start (suc n) parts toks greedy g e =
    ap (others_on part (others part start n) parts toks) (ap (λ (b : Bool). another start b toks) (sym g) ∙ sym e)

pub others_done : (part : List Lexeme → Option Found) (start : Start) (n : ℕ) (parts : List Syntax) (toks : List Lexeme) → n ≡ 0 → others part start n parts toks ≡ some_row parts toks
unfolding others
others_done part start n parts toks e = ap (λ (n : ℕ). others part start n parts toks) e

pub others_turn : (part : List Lexeme → Option Found) (start : Start) (n : ℕ) (parts : List Syntax) (toks begin : List Lexeme) (greedy : Bool) → 0 < n → greedy ≡ last_is_open parts → Some begin ≡ another start greedy toks → others part start n parts toks ≡ (part begin >>= λ x. others part start (n - 1) (parts ++ x.0 ∷ []) x.1)
unfolding others
others_turn part start zero parts toks begin greedy h g e = absurd (omega (arith, h))
others_turn part start (suc n) parts toks begin greedy h g e =
    let k : n ≡ suc n - 1 = omega arith in
    ap (others_on part (others part start n) parts toks) (ap (λ (b : Bool). another start b toks) (sym g) ∙ sym e)
    ∙ ap (λ (m : ℕ). part begin >>= λ x. others part start m (parts ++ x.0 ∷ []) x.1) k

put_then : (o : Option Found) (parts : List Syntax) (go : List Syntax → List Lexeme → Option Row) → (o >>= λ x. go (parts ++ x.0 ∷ []) x.1) ≡ ((o >>= put parts) >>= λ y. go y.0 y.1)
put_then None parts go = refl
put_then (Some x) parts go = refl

-- one turn, by the parts with the new one
others_put : (part : List Lexeme → Option Found) (start : Start) (n : ℕ) (parts : List Syntax) (toks begin : List Lexeme) (greedy : Bool) → 0 < n → greedy ≡ last_is_open parts → Some begin ≡ another start greedy toks → others part start n parts toks ≡ ((part begin >>= put parts) >>= λ y. others part start (n - 1) y.0 y.1)
others_put part start n parts toks begin greedy h g e =
    others_turn part start n parts toks begin greedy h g e ∙ put_then (part begin) parts (others part start (n - 1))

pub others_fail : (part : List Lexeme → Option Found) (start : Start) (n : ℕ) (parts : List Syntax) (toks begin : List Lexeme) (greedy : Bool) → 0 < n → greedy ≡ last_is_open parts → Some begin ≡ another start greedy toks → (part begin >>= put parts) ≡ None → others part start n parts toks ≡ None
others_fail part start n parts toks begin greedy h g e f =
    others_put part start n parts toks begin greedy h g e ∙ ap (λ (o : Option Row). o >>= λ y. others part start (n - 1) y.0 y.1) f

pub others_more : (part : List Lexeme → Option Found) (start : Start) (n m : ℕ) (parts new : List Syntax) (toks begin rest : List Lexeme) (greedy : Bool) → 0 < n → m ≡ n - 1 → greedy ≡ last_is_open parts → Some begin ≡ another start greedy toks → (part begin >>= put parts) ≡ some_row new rest → others part start m new rest ≡ others part start n parts toks
others_more part start n m parts new toks begin rest greedy h less g e f =
    ap (λ (m : ℕ). others part start m new rest) less
    ∙ sym (others_put part start n parts toks begin greedy h g e ∙ ap (λ (o : Option Row). o >>= λ y. others part start (n - 1) y.0 y.1) f)

pub others_next : (part : List Lexeme → Option Found) (start : Start) (n m : ℕ) (parts new : List Syntax) (toks begin rest : List Lexeme) (t : Syntax) (greedy : Bool) → 0 < n → m ≡ n - 1 → greedy ≡ last_is_open parts → Some begin ≡ another start greedy toks → part begin ≡ some_found t rest → new ≡ parts ++ t ∷ [] → others part start m new rest ≡ others part start n parts toks
others_next part start n m parts new toks begin rest t greedy h less g e f is =
    others_more part start n m parts new toks begin rest greedy h less g e (ap (λ (o : Option Found). o >>= put parts) f ∙ ap (λ (ts : List Syntax). some_row ts rest) (sym is))

-- ---- nodes

pub node_row : (read : Reader) (opening : Bool) (m : Fields) (f g : Form) (toks rest : List Lexeme) (first second : List Piece) (none ps : List Syntax) → first ≡ front f → none ≡ [] → row read opening first none toks ≡ some_row ps rest → g ≡ turned f rest → second ≡ back m g → node read opening m f toks ≡ (row read opening second ps rest >>= node_of g)
unfolding node
node_row read opening m f g toks rest first second none ps e1 e2 e3 e4 e5 =
    ap (λ (r : Option Row). r >>= λ y. node_on read opening m (turned f y.1) y)
    (ap (λ (qs : List Piece). row read opening qs [] toks) (sym e1) ∙ ap (λ (xs : List Syntax). row read opening first xs toks) (sym e2) ∙ e3)
    ∙ ap (λ (h : Form). node_on read opening m h (ps, rest)) (sym e4)
    ∙ ap (λ (qs : List Piece). row read opening qs ps rest >>= node_of g) (sym e5)

pub node_is : (read : Reader) (opening : Bool) (m : Fields) (f g : Form) (toks rest last : List Lexeme) (first second : List Piece) (none ps qs : List Syntax) (t : Syntax) → first ≡ front f → none ≡ [] → row read opening first none toks ≡ some_row ps rest → g ≡ turned f rest → second ≡ back m g → row read opening second ps rest ≡ some_row qs last → t ≡ Node g (syntaxes qs) → node read opening m f toks ≡ some_found t last
node_is read opening m f g toks rest last first second none ps qs t e1 e2 e3 e4 e5 e6 e7 =
    node_row read opening m f g toks rest first second none ps e1 e2 e3 e4 e5
    ∙ ap (λ (r : Option Row). r >>= node_of g) e6
    ∙ ap (λ (u : Syntax). some_found u last) (sym e7)

pub node_fails : (e : ReadError) (read : Reader) (opening : Bool) (m : Fields) (f g : Form) (toks rest : List Lexeme) (first second : List Piece) (none ps : List Syntax) → first ≡ front f → none ≡ [] → row read opening first none toks ≡ some_row ps rest → g ≡ turned f rest → second ≡ back m g → Fails e (row read opening second ps rest) → Fails e (node read opening m f toks)
node_fails e read opening m f g toks rest first second none ps e1 e2 e3 e4 e5 h =
    fails_on e (row read opening second ps rest) (node read opening m f toks)
    (λ e. node_row read opening m f g toks rest first second none ps e1 e2 e3 e4 e5 ∙ ap (λ (r : Option Row). r >>= node_of g) e) h

-- ---- operators

pub grown_row : (read : Reader) (opening : Bool) (op : Operator) (left : Syntax) (toks : List Lexeme) (ps : List Piece) (parts : List Syntax) → ps ≡ behind op → parts ≡ left ∷ [] → grown read opening op left toks ≡ (row read opening ps parts toks >>= node_of (forms.Operation op))
unfolding grown
grown_row read opening op left toks ps parts e1 e2 =
    ap (λ (qs : List Piece). row read opening qs (left ∷ []) toks >>= node_of (forms.Operation op)) (sym e1)
    ∙ ap (λ (xs : List Syntax). row read opening ps xs toks >>= node_of (forms.Operation op)) (sym e2)

pub grown_is : (read : Reader) (opening : Bool) (op : Operator) (left t : Syntax) (toks last : List Lexeme) (ps : List Piece) (parts qs : List Syntax) → ps ≡ behind op → parts ≡ left ∷ [] → row read opening ps parts toks ≡ some_row qs last → t ≡ Node (forms.Operation op) (syntaxes qs) → grown read opening op left toks ≡ some_found t last
grown_is read opening op left t toks last ps parts qs e1 e2 e3 e4 =
    grown_row read opening op left toks ps parts e1 e2
    ∙ ap (λ (r : Option Row). r >>= node_of (forms.Operation op)) e3
    ∙ ap (λ (u : Syntax). some_found u last) (sym e4)

pub grown_fails : (e : ReadError) (read : Reader) (opening : Bool) (op : Operator) (left : Syntax) (toks : List Lexeme) (ps : List Piece) (parts : List Syntax) → ps ≡ behind op → parts ≡ left ∷ [] → Fails e (row read opening ps parts toks) → Fails e (grown read opening op left toks)
grown_fails e read opening op left toks ps parts e1 e2 h =
    fails_on e (row read opening ps parts toks) (grown read opening op left toks)
    (λ e. grown_row read opening op left toks ps parts e1 e2 ∙ ap (λ (r : Option Row). r >>= node_of (forms.Operation op)) e) h

abbrev pub some_operator : Operator → List Lexeme → Option (Operator × List Lexeme)
some_operator op rest = Some (op, rest)

abbrev pub no_operator : Option (Operator × List Lexeme)
no_operator = None

pub climb_ends : (read : Reader) (opening : Bool) (room l turns : ℕ) (left : Syntax) (toks : List Lexeme) → no_operator ≡ next_operator l left toks → climb read opening room l turns left toks ≡ some_found left toks
unfolding climb
climb_ends read opening room l zero left toks e = ap (climb_on read opening (λ p t. None) 0 left toks) (sym e)
climb_ends read opening room l (suc n) left toks e = ap (climb_on read opening (climb read opening room l n) room left toks) (sym e)

too_high : (read : Reader) (opening : Bool) (go : Syntax → List Lexeme → Option Found) (room : ℕ) (left : Syntax) (toks : List Lexeme) (op : Operator) (rest : List Lexeme) → room ≤ height_of left → climb_on read opening go room left toks (some_operator op rest) ≡ None
too_high read opening go room left toks op rest h = let low : nat_lt (height_of left) room ≡ false = le-ltb _ _ h in rw low refl

climb_high : (read : Reader) (opening : Bool) (room l turns height : ℕ) (left : Syntax) (toks : List Lexeme) (op : Operator) (rest : List Lexeme) → height ≡ height_of left → some_operator op rest ≡ next_operator l left toks → ((turns ≡ 0) ⊎ ((turns ≡ 0 → ⊥) × (room ≤ height))) → climb read opening room l turns left toks ≡ None
unfolding climb
climb_high read opening room l zero height left toks op rest i e w =
    ap (climb_on read opening (λ p t. None) 0 left toks) (sym e) ∙ too_high read opening (λ p t. None) 0 left toks op rest (omega arith)
climb_high read opening room l (suc n) height left toks op rest i e (inl z) = absurd (omega (arith, z))
climb_high read opening room l (suc n) height left toks op rest i e (inr w) =
    ap (climb_on read opening (climb read opening room l n) room left toks) (sym e) ∙ too_high read opening (climb read opening room l n) room left toks op rest (omega (arith, w.1, i))

-- one turn, where the operator may be there
pub climb_turn : (read : Reader) (opening : Bool) (room l turns height : ℕ) (left : Syntax) (toks : List Lexeme) (op : Operator) (rest : List Lexeme) → height ≡ height_of left → some_operator op rest ≡ next_operator l left toks → (turns ≡ 0 → ⊥) → height < room → true ≡ may_begin opening op → climb read opening room l turns left toks ≡ (grown read opening op left rest >>= λ y. climb read opening room l (turns - 1) y.0 y.1)
unfolding climb
climb_turn read opening room l zero height left toks op rest i e z h m = absurd (z refl)
climb_turn read opening room l (suc n) height left toks op rest i e z h m =
    let low : nat_lt (height_of left) room ≡ true = lt-ltb _ _ (omega (arith, h, i)) in
    let may : may_begin opening op ≡ true = sym m in
    let k : n ≡ suc n - 1 = omega arith in
    ap (climb_on read opening (climb read opening room l n) room left toks) (sym e)
    ∙ rw low (rw may (ap (λ (m : ℕ). grown read opening op left rest >>= λ y. climb read opening room l m y.0 y.1) k))

climb_shut : (read : Reader) (opening : Bool) (room l turns height : ℕ) (left : Syntax) (toks : List Lexeme) (op : Operator) (rest : List Lexeme) → height ≡ height_of left → some_operator op rest ≡ next_operator l left toks → (turns ≡ 0 → ⊥) → height < room → false ≡ may_begin opening op → climb read opening room l turns left toks ≡ None
unfolding climb
climb_shut read opening room l zero height left toks op rest i e z h m = absurd (z refl)
climb_shut read opening room l (suc n) height left toks op rest i e z h m =
    let low : nat_lt (height_of left) room ≡ true = lt-ltb _ _ (omega (arith, h, i)) in
    let may : may_begin opening op ≡ false = sym m in
    ap (climb_on read opening (climb read opening room l n) room left toks) (sym e) ∙ rw low (rw may refl)

pub climb_stuck : (read : Reader) (opening : Bool) (room l turns height : ℕ) (left : Syntax) (toks : List Lexeme) (op : Operator) (rest : List Lexeme) (may : Bool) → height ≡ height_of left → some_operator op rest ≡ next_operator l left toks → may ≡ may_begin opening op → ((turns ≡ 0) ⊎ (((turns ≡ 0 → ⊥) × (room ≤ height)) ⊎ ((turns ≡ 0 → ⊥) × (height < room) × (may ≡ false)))) → climb read opening room l turns left toks ≡ None
climb_stuck read opening room l turns height left toks op rest may i e is (inl z) =
    climb_high read opening room l turns height left toks op rest i e (inl z)
climb_stuck read opening room l turns height left toks op rest may i e is (inr (inl w)) =
    climb_high read opening room l turns height left toks op rest i e (inr w)
climb_stuck read opening room l turns height left toks op rest may i e is (inr (inr w)) =
    climb_shut read opening room l turns height left toks op rest i e w.0 w.1 (sym w.2 ∙ is)
