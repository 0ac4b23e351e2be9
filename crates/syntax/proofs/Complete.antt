-- A tree that fits and is within the limits, spelled by its tokens and followed by what ends it, is what is read there.
use Rattle.std.proofs.Common.{◌≡◌, ℕ, zero, suc, ◌-◌, ◌<◌, ◌≤◌, List, [], ◌∷◌, ◌++◌, Bool, true, false, Option, Some, None, refl, sym, ap, subst, ◌∙◌, arith}
use Rattle.std.proofs.lemmas.Bool.{leb-true, le-leb}
use Rattle.std.proofs.lemmas.List.{append-nil}
use Rattle.std.proofs.Math.Nat.{le-max_left}
use Rattle.tokens.specs.Lexeme.{Lexeme}
use Rattle.syntax.specs.declared.piece.Kind.{Kind}
use Rattle.syntax.specs.declared.piece.Kind.TheVariants as kinds
use Rattle.syntax.specs.declared.piece.Piece.{Piece}
use Rattle.syntax.specs.declared.piece.Piece.TheVariants as pieces
use Rattle.syntax.specs.declared.form.Form.{Form}
use Rattle.syntax.specs.declared.form.Form.TheVariants as forms
use Rattle.syntax.specs.Rules.{rule, form_level, is_heavy}
use Rattle.syntax.specs.Grammar.{Syntax, Called, Numeral, Node, Syntaxes, NoSyntax, MoreSyntax, flat, height_of, highest, nesting, is, is_open, is_event, is_value, is_numeral, is_field, is_generator, is_generators, is_pair, is_called, is_names, is_constants, is_field_sets, is_declaration, is_script, level_in, Fits, FitAll, FitsPart}
use Rattle.tokens.specs.declared.read_error.ReadError.{ReadError}
use Rattle.tokens.specs.declared.read_error.ReadError.TheVariants.{Memory}
use Rattle.syntax.specs.Script.{IsPhrase, IsScript}
use Rattle.syntax.specs.Parsing.{◌>>=◌, Found, operand, go_on, read_in, climb, reader, may_open, reads, is_alone, numeral_at, number_at, name_at, may_be_number, ended, whole}
use Rattle.syntax.specs.Answers.{Fails}
use Rattle.syntax.proofs.Branches.{some_found}
use Rattle.syntax.proofs.Climbing.{stops_tighter, climb_stops}
use Rattle.syntax.proofs.Steps.{reads_suc}
use Rattle.syntax.proofs.Table.{operator_row}
use Rattle.syntax.proofs.CompleteBools.{false_true}
use Rattle.syntax.proofs.Failing.{only_memory}
use Rattle.syntax.proofs.CompleteFollow.{Follows, quiet, quiet_phrase}
use Rattle.syntax.proofs.CompleteFirst.{is_operation}
use Rattle.syntax.proofs.CompleteGoal.{rank, is_read_kind, IsRead, Comes, AllRead, edge, spine, start}
use Rattle.syntax.proofs.CompleteParts.{first, phrase_read_first, atom_read_first, event_read_first, value_read_first, field_read_first, generator_read_first, generators_read_first, pair_read_first, names_read_first, constants_read_first, field_sets_read_first, declaration_read_first, script_read_first}
use Rattle.syntax.proofs.CompleteOperation.{comes_operation}

-- ---- a phrase that is no operation comes to its end

no_spine : (f : Form) (ts : Syntaxes) → is_operation f ≡ false → spine (Node f ts) ≡ 0
unfolding spine
no_spine (forms.Operation op) ts e = absurd cc
no_spine f ts e = refl

operand_comes : (f : Form) (ts : Syntaxes) → is_operation f ≡ false → AllRead ts → Fits (Node f ts) → Comes (Node f ts)
unfolding level_in rank
operand_comes f ts o read fits b r layers l m n rest loosest low high nested h s e =
    ap (λ (x : Option Found). x >>= λ y. climb (reader b r 4) (may_open b) (suc r) l m y.0 y.1) (phrase_read_first l f ts (le-leb _ _ loosest) o (le-leb _ _ low) b r layers rest read fits high nested (omega arith) (h, s))
    ∙ ap (λ (i : ℕ). climb (reader b r 4) (may_open b) (suc r) l i (Node f ts) rest) (omega (arith, e, no_spine f ts o))

node_comes : (f : Form) (ts : Syntaxes) → AllRead ts → Fits (Node f ts) → Comes (Node f ts)
unfolding rule
node_comes (forms.Operation op) (MoreSyntax p us) read fits = comes_operation op p us fits read.0.1 read.1
node_comes (forms.Operation op) NoSyntax read fits = absurd (false_true fits.1)
node_comes f ts read fits = operand_comes f ts refl read fits

numeral_comes : (x : ℕ) → Comes (Numeral x)
unfolding flat spine operand is_alone numeral_at may_be_number number_at
numeral_comes x b r layers l m n rest loosest low high nested h s e =
    ap (λ (i : ℕ). climb (reader b r 4) (may_open b) (suc r) l i (Numeral x) rest) (omega (arith, e))

called_comes : (x : List ℕ) → Comes (Called x)
unfolding level_in
called_comes x b r layers l m n rest loosest low high nested h s e = absurd (omega (arith, low, loosest))

-- ---- a phrase that comes to its end is read

spine_height : (t : Syntax) → spine t ≤ height_of t
unfolding spine is_heavy
spine_height (Called n) = omega arith
spine_height (Numeral n) = omega arith
spine_height (Node (forms.Operation op) (MoreSyntax p ts)) = omega (arith, spine_height p, le-max_left (height_of p) (highest ts))
spine_height (Node f ts) = omega arith

edge_level : (t : Syntax) → edge t ≤ level_in t
unfolding edge level_in form_level
edge_level (Called n) = omega arith
edge_level (Numeral n) = omega arith
edge_level (Node (forms.Operation op) ts) = (operator_row op).right
edge_level (Node forms.Negation ts) = omega arith
edge_level (Node forms.Not ts) = omega arith
edge_level (Node f ts) = omega arith

phrase_read : (t : Syntax) → Comes t → (b r layers l : ℕ) (rest : List Lexeme) → l ≤ 16 → level_in t ≤ l → height_of t ≤ suc r → nesting t ≤ b → Follows (kinds.Phrase l) (is_open t) rest → reads b (suc r) (suc layers) (kinds.Phrase l) (flat t ++ rest) ≡ some_found t rest
unfolding read_in go_on
phrase_read t comes b r layers l rest loosest low high nested follows =
    reads_suc b r layers (kinds.Phrase l) (flat t ++ rest)
    ∙ bind_climb (operand (reader b r 4) (reader b (suc r) layers) (may_open b) (kinds.Phrase l) (flat t ++ rest))
    ∙ comes b r layers l (suc r) (suc r - spine t) rest loosest low high nested follows.0 (stops_tighter (edge t) l rest (omega (arith, edge_level t, low)) follows.1) (omega (arith, spine_height t, high))
    ∙ climb_stops (reader b r 4) (may_open b) (suc r) l (suc r - spine t) t rest follows.1
  where
    bind_climb : (o : Option Found) → (o >>= go_on (reader b r 4) (may_open b) (suc r) (kinds.Phrase l)) ≡ (o >>= λ x. climb (reader b r 4) (may_open b) (suc r) l (suc r) x.0 x.1)
    bind_climb (Some x) = refl
    bind_climb None = refl

-- ---- the other kinds

-- after a part that is no phrase nothing goes on
abbrev is_phrase : Kind → Bool
is_phrase (kinds.Phrase l) = true
is_phrase k = false

stays : (b r : ℕ) (k : Kind) (t : Syntax) (rest : List Lexeme) → is_phrase k ≡ false → go_on (reader b r 4) (may_open b) (suc r) k (t, rest) ≡ some_found t rest
unfolding go_on
stays b r (kinds.Phrase l) t rest p = absurd cc
stays b r k t rest p = refl

alone_read : (b r layers : ℕ) (k : Kind) (t : Syntax) (rest toks : List Lexeme) → is_phrase k ≡ false → first b r layers k toks ≡ some_found t rest → reads b (suc r) (suc layers) k toks ≡ some_found t rest
unfolding read_in
alone_read b r layers k t rest toks p e =
    reads_suc b r layers k toks ∙ ap (λ (o : Option Found). o >>= go_on (reader b r 4) (may_open b) (suc r) k) e ∙ stays b r k t rest p

node_read : (f : Form) (ts : Syntaxes) → AllRead ts → Fits (Node f ts) → Comes (Node f ts) → (b r n : ℕ) (k : Kind) (rest : List Lexeme) → is_read_kind k ≡ true → is k (Node f ts) ≡ true → height_of (Node f ts) ≤ suc r → nesting (Node f ts) ≤ b → rank k ≤ suc n → Follows k (is_open (Node f ts)) rest → reads b (suc r) (suc n) k (flat (Node f ts) ++ rest) ≡ some_found (Node f ts) rest
unfolding is_read_kind is level_in is_numeral is_called
node_read f ts read fits comes b r n (kinds.Phrase l) rest kind i high nested layers follows = phrase_read (Node f ts) comes b r n l rest (leb-true _ _ kind) (leb-true _ _ i) high nested follows
node_read f ts read fits comes b r n (kinds.Atom m) rest kind i high nested layers follows = alone_read b r n (kinds.Atom m) (Node f ts) rest _ refl (atom_read_first m f ts i b r n rest read fits high nested layers follows)
node_read f ts read fits comes b r n kinds.Event rest kind i high nested layers follows = alone_read b r n kinds.Event (Node f ts) rest _ refl (event_read_first f ts i b r n rest read fits high nested layers follows)
node_read f ts read fits comes b r n kinds.Value rest kind i high nested layers follows = alone_read b r n kinds.Value (Node f ts) rest _ refl (value_read_first f ts i b r n rest read fits high nested layers follows)
node_read f ts read fits comes b r n kinds.Number rest kind i high nested layers follows = absurd (false_true i)
node_read f ts read fits comes b r n kinds.Field rest kind i high nested layers follows = alone_read b r n kinds.Field (Node f ts) rest _ refl (field_read_first f ts i b r n rest read fits high nested layers follows)
node_read f ts read fits comes b r n kinds.Generator rest kind i high nested layers follows = alone_read b r n kinds.Generator (Node f ts) rest _ refl (generator_read_first f ts i b r n rest read fits high nested layers follows)
node_read f ts read fits comes b r n kinds.Generators rest kind i high nested layers follows = alone_read b r n kinds.Generators (Node f ts) rest _ refl (generators_read_first f ts i b r n rest read fits high nested layers follows)
node_read f ts read fits comes b r n kinds.Pair rest kind i high nested layers follows = alone_read b r n kinds.Pair (Node f ts) rest _ refl (pair_read_first f ts i b r n rest read fits high nested layers follows)
node_read f ts read fits comes b r n (kinds.Left op) rest kind i high nested layers follows = absurd (false_true kind)
node_read f ts read fits comes b r n kinds.Called rest kind i high nested layers follows = absurd (false_true i)
node_read f ts read fits comes b r n kinds.Names rest kind i high nested layers follows = alone_read b r n kinds.Names (Node f ts) rest _ refl (names_read_first f ts i b r n rest read fits high nested layers follows)
node_read f ts read fits comes b r n kinds.Constants rest kind i high nested layers follows = alone_read b r n kinds.Constants (Node f ts) rest _ refl (constants_read_first f ts i b r n rest read fits high nested layers follows)
node_read f ts read fits comes b r n kinds.FieldSets rest kind i high nested layers follows = alone_read b r n kinds.FieldSets (Node f ts) rest _ refl (field_sets_read_first f ts i b r n rest read fits high nested layers follows)
node_read f ts read fits comes b r n kinds.Declaration rest kind i high nested layers follows = alone_read b r n kinds.Declaration (Node f ts) rest _ refl (declaration_read_first f ts i b r n rest read fits high nested layers follows)
node_read f ts read fits comes b r n kinds.Script rest kind i high nested layers follows = alone_read b r n kinds.Script (Node f ts) rest _ refl (script_read_first f ts i b r n rest read fits high nested layers follows)

numeral_read : (x : ℕ) (b r n : ℕ) (k : Kind) (rest : List Lexeme) → is_read_kind k ≡ true → is k (Numeral x) ≡ true → height_of (Numeral x) ≤ suc r → nesting (Numeral x) ≤ b → Follows k (is_open (Numeral x)) rest → reads b (suc r) (suc n) k (flat (Numeral x) ++ rest) ≡ some_found (Numeral x) rest
unfolding is_read_kind is level_in flat operand is_alone numeral_at may_be_number number_at is_event is_field is_generator is_generators is_pair is_called is_names is_constants is_field_sets is_declaration is_script
numeral_read x b r n (kinds.Phrase l) rest kind i high nested follows = phrase_read (Numeral x) (numeral_comes x) b r n l rest (leb-true _ _ kind) (leb-true _ _ i) high nested follows
numeral_read x b r n (kinds.Atom m) rest kind i high nested follows = alone_read b r n (kinds.Atom m) (Numeral x) rest _ refl refl
numeral_read x b r n kinds.Value rest kind i high nested follows = alone_read b r n kinds.Value (Numeral x) rest _ refl refl
numeral_read x b r n kinds.Number rest kind i high nested follows = alone_read b r n kinds.Number (Numeral x) rest _ refl refl
numeral_read x b r n (kinds.Left op) rest kind i high nested follows = absurd (false_true kind)
numeral_read x b r n k rest kind i high nested follows = absurd (false_true i)

called_read : (x : List ℕ) (b r n : ℕ) (k : Kind) (rest : List Lexeme) → is_read_kind k ≡ true → is k (Called x) ≡ true → reads b (suc r) (suc n) k (flat (Called x) ++ rest) ≡ some_found (Called x) rest
unfolding is_read_kind is level_in flat operand is_alone name_at is_event is_value is_numeral is_field is_generator is_generators is_pair is_names is_constants is_field_sets is_declaration is_script
called_read x b r n (kinds.Phrase l) rest kind i = absurd (too_loose l (leb-true _ _ i) (leb-true _ _ kind))
  where
    too_loose : (l : ℕ) → 99 ≤ l → l ≤ 16 → ⊥
    too_loose l h j = omega (arith, h, j)
called_read x b r n kinds.Called rest kind i = alone_read b r n kinds.Called (Called x) rest _ refl refl
called_read x b r n (kinds.Left op) rest kind i = absurd (false_true kind)
called_read x b r n k rest kind i = absurd (false_true i)

-- ---- every tree

rank_positive : (k : Kind) → 0 < rank k
unfolding rank
rank_positive kinds.Value = omega arith
rank_positive k = omega arith

-- where there is room and a layer
read_anywhere : (t : Syntax) → ((b r n : ℕ) (k : Kind) (rest : List Lexeme) → is_read_kind k ≡ true → is k t ≡ true → height_of t ≤ suc r → nesting t ≤ b → rank k ≤ suc n → Follows k (is_open t) rest → reads b (suc r) (suc n) k (flat t ++ rest) ≡ some_found t rest) → IsRead t
read_anywhere t at b zero layers k rest kind i positive high nested enough follows = absurd (omega (arith, positive))
read_anywhere t at b (suc r) zero k rest kind i positive high nested enough follows = absurd (omega (arith, enough, rank_positive k))
read_anywhere t at b (suc r) (suc n) k rest kind i positive high nested enough follows = at b r n k rest kind i high nested enough follows

abbrev AllFit : Syntaxes → Type 0
AllFit NoSyntax = Unit {0}
AllFit (MoreSyntax t ts) = Fits t × AllFit ts

rest_fit : (t : Syntax) (others : List Piece → Type 0) (ps : List Piece) → FitsPart t others ps → (qs : List Piece) × others qs
rest_fit t others [] h = absurd h
rest_fit t others (pieces.Sign s ∷ ps) h = rest_fit t others ps h
rest_fit t others (pieces.Open s ∷ ps) h = rest_fit t others ps h
rest_fit t others (pieces.Name ∷ ps) h = (ps, h.1)
rest_fit t others (pieces.Part place kind ∷ ps) h = (ps, h.1)
rest_fit t others (pieces.Others place kind start ∷ ps) h = (pieces.Others place kind start ∷ ps, h.1)

all_fit : (ts : Syntaxes) (ps : List Piece) → FitAll ts ps → AllFit ts
all_fit NoSyntax ps h = tt
all_fit (MoreSyntax t ts) ps h =
    let more = rest_fit t (FitAll ts) ps h.1 in
    (h.0, all_fit ts more.0 more.1)

node_complete : (f : Form) (ts : Syntaxes) → AllRead ts → Fits (Node f ts) → IsRead (Node f ts) × Comes (Node f ts)
node_complete f ts read h =
    let comes = node_comes f ts read h in
    (read_anywhere (Node f ts) (node_read f ts read h comes), comes)

mutual
  pub complete : (t : Syntax) → Fits t → IsRead t × Comes t
  complete (Called x) h = (read_anywhere (Called x) (λ b r n k rest kind i high nested enough follows. called_read x b r n k rest kind i), called_comes x)
  complete (Numeral x) h = (read_anywhere (Numeral x) (λ b r n k rest kind i high nested enough follows. numeral_read x b r n k rest kind i high nested follows), numeral_comes x)
  complete (Node f ts) h = node_complete f ts (complete_all ts (all_fit ts (rule f) h.1)) h

  complete_all : (ts : Syntaxes) → AllFit ts → AllRead ts
  complete_all NoSyntax h = tt
  complete_all (MoreSyntax t ts) h = (complete t h.0, complete_all ts h.1)

-- ---- whole scripts and phrases

-- the tokens of a tree are read as that tree where they are all
all_is : (k : Kind) (toks : List Lexeme) (t : Syntax) → is_read_kind k ≡ true → rank k ≤ 4 → Follows k (is_open t) [] → is k t ≡ true → Fits t → height_of t ≤ 250 → nesting t ≤ 250 → toks ≡ flat t → whole k toks ≡ Some t
unfolding whole ended
all_is k toks t kind low follows i fits high nested spelled =
    let read : reads 250 250 4 k (flat t ++ []) ≡ some_found t [] = (complete t fits).0 250 250 4 k [] kind i (omega arith) high nested low follows in
    ap (whole k) spelled
    ∙ ap (λ (xs : List Lexeme). reads 250 250 4 k xs >>= ended) (sym (append-nil (flat t)))
    ∙ ap (λ (o : Option Found). o >>= ended) read

-- the tokens of a script's tree are read as that tree
pub whole_is : (toks : List Lexeme) (t : Syntax) → IsScript toks t → whole kinds.Script toks ≡ Some t
unfolding is is_read_kind rank
whole_is toks t h = all_is kinds.Script toks t refl (omega arith) refl h.kind h.fits h.high h.nested h.spelled

-- and those of a phrase's
pub phrase_is : (toks : List Lexeme) (t : Syntax) → IsPhrase toks t → whole (kinds.Phrase 16) toks ≡ Some t
unfolding is is_read_kind rank quiet
phrase_is toks t h = all_is (kinds.Phrase 16) toks t refl (omega arith) (quiet_phrase 16 (is_open t) [] refl) h.kind h.fits h.high h.nested h.spelled

abbrev some_tree : Syntax → Option Syntax
some_tree t = Some t

same_tree : (t u : Syntax) → some_tree t ≡ some_tree u → t ≡ u
same_tree t u e = cc

-- tokens are those of one script's tree at most
pub one_tree : (toks : List Lexeme) (t u : Syntax) → IsScript toks t → IsScript toks u → t ≡ u
one_tree toks t u h j = same_tree t u (sym (whole_is toks t h) ∙ whole_is toks u j)

-- and of one phrase's
pub one_phrase : (toks : List Lexeme) (t u : Syntax) → IsPhrase toks t → IsPhrase toks u → t ≡ u
one_phrase toks t u h j = same_tree t u (sym (phrase_is toks t h) ∙ phrase_is toks u j)

-- ---- what a reader answers

-- the tree that is read is the one that it is to be
pub tree_is : (k : Kind) (toks : List Lexeme) (t u : Syntax) → whole k toks ≡ Some u → whole k toks ≡ Some t → u ≡ t
tree_is k toks t u e h = same_tree u t (sym e ∙ h)

-- where it is not read, memory has run out
pub memory_only : (k : Kind) (e : ReadError) (toks : List Lexeme) (t : Syntax) → Fails e (whole k toks) → whole k toks ≡ Some t → e ≡ Memory
memory_only k e toks t f h = only_memory e t (subst (λ (o : Option Syntax). Fails e o) h f)
