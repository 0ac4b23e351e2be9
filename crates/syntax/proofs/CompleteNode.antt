-- Where the tokens are those of a node, the node is read: forms whose rule is read in one go.
use Rattle.std.proofs.Common.{◌≡◌, ℕ, suc, ◌+◌, ◌<◌, ◌≤◌, List, [], ◌∷◌, ◌++◌, Bool, true, false, cond, not, refl, sym, ap, subst, arith, ◌&&◌, ◌⊎◌, inl, inr}
use Rattle.std.proofs.lemmas.Bool.{leb-true, le-leb}
use Rattle.std.proofs.Math.Nat.{le-max_left, le-max_right}
use Rattle.tokens.specs.Lexeme.{Lexeme}
use Rattle.syntax.specs.declared.piece.Fields.{Fields}
use Rattle.syntax.specs.declared.piece.Kind.{Kind}
use Rattle.syntax.specs.declared.piece.Place.{Place}
use Rattle.syntax.specs.declared.piece.Place.TheVariants as places
use Rattle.syntax.specs.declared.piece.Piece.{Piece}
use Rattle.syntax.specs.declared.piece.Piece.TheVariants as pieces
use Rattle.syntax.specs.declared.form.Form.{Form}
use Rattle.syntax.specs.declared.form.Form.TheVariants as forms
use Rattle.syntax.specs.Rules.{rule, is_heavy}
use Rattle.syntax.specs.Grammar.{Node, Syntaxes, NoSyntax, MoreSyntax, flat, spell, height_of, highest, nesting, nests, nests_part, opens_any, is_last, last_open, may_stand, Fits, FitAll}
use Rattle.syntax.specs.Parsing.{is_sign, row, front, back, turned, node, pick, reader, may_open}
use Rattle.syntax.proofs.Sound.{only_signs}
use Rattle.syntax.proofs.Branches.{some_found, some_row, node_is}
use Rattle.syntax.proofs.CompleteBools.{false_true, both_true, and_true, or_true}
use Rattle.syntax.proofs.CompleteFollow.{quiet, quiet_symbol, quiet_keyword, closes}
use Rattle.syntax.proofs.CompleteGoal.{rank, is_read_kind, AllRead}
use Rattle.syntax.proofs.CompleteTall.{tall}
use Rattle.syntax.proofs.CompleteRow.{listed, syntaxes_listed, Apart, linked, ranked, joins, continues, separates, ends_with, halts, wants_shut, is_fields, shutting, Tail, tall_pieces, row_complete}

-- ---- forms by their rules

-- a form whose rule is read as it stands
abbrev pub is_simple : Form → Bool
is_simple forms.Event = false
is_simple forms.Set = false
is_simple forms.Range = false
is_simple forms.Channels = false
is_simple forms.ChannelsWithFields = false
is_simple (forms.Operation op) = false
is_simple f = true

-- how many layers a form has below it
unfoldable pub below : Form → ℕ
below forms.Brackets = 0
below forms.Generators = 2
below forms.Generator = 1
below forms.Pair = 1
below forms.Dotted = 2
below forms.Output = 2
below forms.RestrictedInput = 2
below forms.NegativeNumber = 1
below forms.Names = 1
below forms.Constants = 1
below forms.FieldSets = 1
below forms.Channels = 2
below forms.ChannelsWithFields = 2
below forms.Datatype = 2
below forms.Definition = 2
below forms.DefinitionWithParameters = 2
below forms.Script = 3
below f = 4

pub linked_rule : (f : Form) → is_simple f ≡ true → linked (below f) (rule f) ≡ true
unfolding linked ranked joins continues separates ends_with halts rank is_read_kind closes quiet quiet_symbol quiet_keyword is_sign rule below
linked_rule forms.Event e = absurd cc
linked_rule forms.Set e = absurd cc
linked_rule forms.Range e = absurd cc
linked_rule forms.Channels e = absurd cc
linked_rule forms.ChannelsWithFields e = absurd cc
linked_rule (forms.Operation op) e = absurd cc
linked_rule f e = refl

tall_rule : (f : Form) → is_simple f ≡ true → is_heavy f ≡ true → tall_pieces (rule f) ≡ true
unfolding tall_pieces tall rule is_heavy
tall_rule forms.Event e h = absurd cc
tall_rule forms.Set e h = absurd cc
tall_rule forms.Range e h = absurd cc
tall_rule forms.Channels e h = absurd cc
tall_rule forms.ChannelsWithFields e h = absurd cc
tall_rule (forms.Operation op) e h = absurd cc
tall_rule forms.Names e h = absurd cc
tall_rule forms.Constants e h = absurd cc
tall_rule forms.Datatype e h = absurd cc
tall_rule forms.DefinitionWithParameters e h = absurd cc
tall_rule forms.Script e h = absurd cc
tall_rule f e h = refl

simple_front : (f : Form) → is_simple f ≡ true → front f ≡ []
unfolding front
simple_front forms.Set e = absurd cc
simple_front forms.Range e = absurd cc
simple_front forms.Channels e = absurd cc
simple_front forms.ChannelsWithFields e = absurd cc
simple_front f e = refl

simple_turned : (f : Form) (toks : List Lexeme) → is_simple f ≡ true → turned f toks ≡ f
unfolding turned
simple_turned forms.Set toks e = absurd cc
simple_turned forms.Channels toks e = absurd cc
simple_turned f toks e = refl

simple_back : (m : Fields) (f : Form) → is_simple f ≡ true → back m f ≡ rule f
unfolding back rule
simple_back m forms.Event e = absurd cc
simple_back m forms.Set e = absurd cc
simple_back m forms.Range e = absurd cc
simple_back m forms.Channels e = absurd cc
simple_back m forms.ChannelsWithFields e = absurd cc
simple_back m (forms.Operation op) e = absurd cc
simple_back m f e = refl

apart_rule : (f : Form) (ts : Syntaxes) → is_simple f ≡ true → may_stand f ts ≡ true → Apart (shutting (rule f)) [] ts
unfolding shutting wants_shut rule may_stand
apart_rule forms.Event ts e h n = absurd cc
apart_rule (forms.Operation op) ts e h n = absurd cc
apart_rule forms.FieldSets ts e h n = (or_true (is_last ts), h)
apart_rule f ts e h n = absurd (false_true n)

-- ---- brackets

unfoldable pub has_inside : List Piece → Bool
has_inside [] = false
has_inside (pieces.Part places.Inside k ∷ ps) = true
has_inside (pieces.Others place k start ∷ ps) = false
has_inside (p ∷ ps) = has_inside ps

pub inside_nests : (ps : List Piece) (ts : Syntaxes) → has_inside ps ≡ true → FitAll ts ps → 0 < nests ts ps
unfolding has_inside nests nests_part
inside_nests [] ts e h = absurd cc
inside_nests (pieces.Sign s ∷ ps) NoSyntax e h = inside_nests ps NoSyntax e h
inside_nests (pieces.Sign s ∷ ps) (MoreSyntax t ts) e h = inside_nests ps (MoreSyntax t ts) e h
inside_nests (pieces.Open s ∷ ps) NoSyntax e h = omega arith
inside_nests (pieces.Open s ∷ ps) (MoreSyntax t ts) e h = inside_nests ps (MoreSyntax t ts) e h
inside_nests (pieces.Name ∷ ps) NoSyntax e h = absurd (false_true h)
inside_nests (pieces.Name ∷ ps) (MoreSyntax t ts) e h = inside_nests ps ts e h.1.1
inside_nests (pieces.Part place k ∷ ps) NoSyntax e h = absurd (false_true h)
inside_nests (pieces.Part places.Inside k ∷ ps) (MoreSyntax t ts) e h = omega (arith, le-max_left (suc (nesting t)) (nests ts ps))
inside_nests (pieces.Part places.Outside k ∷ ps) (MoreSyntax t ts) e h = omega (arith, inside_nests ps ts e h.1.1, le-max_right (nesting t) (nests ts ps))
inside_nests (pieces.Others place k start ∷ ps) ts e h = absurd cc

opens_rule : (f : Form) (ts : Syntaxes) → is_simple f ≡ true → FitAll ts (rule f) → opens_any (rule f) ≡ true → 0 < nests ts (rule f)
unfolding has_inside nests nests_part rule
opens_rule forms.EmptySet NoSyntax e h o = omega arith
opens_rule forms.EmptySet (MoreSyntax t ts) e h o = absurd h.1
opens_rule forms.NoProductions NoSyntax e h o = omega arith
opens_rule forms.NoProductions (MoreSyntax t ts) e h o = absurd h.1
opens_rule forms.Call ts e h o = inside_nests (rule forms.Call) ts refl h
opens_rule forms.Brackets ts e h o = inside_nests (rule forms.Brackets) ts refl h
opens_rule forms.Productions ts e h o = inside_nests (rule forms.Productions) ts refl h
opens_rule forms.Union ts e h o = inside_nests (rule forms.Union) ts refl h
opens_rule forms.Intersection ts e h o = inside_nests (rule forms.Intersection) ts refl h
opens_rule forms.Difference ts e h o = inside_nests (rule forms.Difference) ts refl h
opens_rule forms.DefinitionWithParameters ts e h o = inside_nests (rule forms.DefinitionWithParameters) ts refl h
opens_rule forms.Set ts e h o = absurd cc
opens_rule forms.Range ts e h o = absurd cc
opens_rule (forms.Operation op) ts e h o = absurd cc
opens_rule f ts e h o = absurd (false_true o)

-- ---- layers

ranked_more : (m n : ℕ) (place : Place) (k : Kind) → m ≤ n → ranked place m k ≡ true → ranked place n k ≡ true
unfolding ranked
ranked_more m n places.Outside k h e = le-leb _ _ (omega (arith, h, leb-true _ _ e))
ranked_more m n places.Inside k h e = refl

pub linked_more : (m n : ℕ) (ps : List Piece) → m ≤ n → linked m ps ≡ true → linked n ps ≡ true
unfolding linked
linked_more m n [] h e = refl
linked_more m n (pieces.Sign s ∷ ps) h e = linked_more m n ps h e
linked_more m n (pieces.Open s ∷ ps) h e = linked_more m n ps h e
linked_more m n (pieces.Name ∷ ps) h e = linked_more m n ps h e
linked_more m n (pieces.Part place k ∷ ps) h e =
    let e1 = both_true (is_read_kind k) (ranked place m k && (joins k ps && linked m ps)) e in
    let e2 = both_true (ranked place m k) (joins k ps && linked m ps) e1.1 in
    let e3 = both_true (joins k ps) (linked m ps) e2.1 in
    and_true (is_read_kind k) _ e1.0 (and_true (ranked place n k) _ (ranked_more m n place k h e2.0) (and_true (joins k ps) _ e3.0 (linked_more m n ps h e3.1)))
linked_more m n (pieces.Others place k start ∷ ps) h e =
    let after_all = continues k start && (not (is_fields start) && (ends_with k start ps && only_signs ps)) in
    let e1 = both_true (is_read_kind k) (ranked place m k && after_all) e in
    let e2 = both_true (ranked place m k) after_all e1.1 in
    and_true (is_read_kind k) _ e1.0 (and_true (ranked place n k) _ (ranked_more m n place k h e2.0) e2.1)

-- ---- a node

pub node_simple : (b r n : ℕ) (m : Fields) (f : Form) (ts : Syntaxes) (rest : List Lexeme) → is_simple f ≡ true → (tall_pieces (rule f) ≡ true) ⊎ (0 < r) → below f ≤ n → AllRead ts → Fits (Node f ts) → highest ts ≤ r → nests ts (rule f) ≤ b → Tail (rule f) (last_open ts) rest → node (reader b r n) (may_open b) m f (flat (Node f ts) ++ rest) ≡ some_found (Node f ts) rest
unfolding flat row
node_simple b r n m f ts rest e room layers read fits high nested tail =
    let toks = spell ts (rule f) ++ rest in
    let whole : row (reader b r n) (may_open b) (rule f) [] toks ≡ some_row (listed ts) rest =
    row_complete b r n (rule f) (last_open ts) rest ts [] room (linked_more (below f) n (rule f) layers (linked_rule f e)) (λ o. omega (arith, opens_rule f ts e fits.1 o, nested)) read fits.1 high nested (apart_rule f ts e fits.0) tail (λ l. refl) in
    node_is (reader b r n) (may_open b) m f f toks toks rest [] (rule f) [] [] (listed ts) (Node f ts) (sym (simple_front f e)) refl (nothing_read toks) (sym (simple_turned f toks e)) (sym (simple_back m f e)) whole (ap (Node f) (sym (syntaxes_listed ts)))
  where
    nothing_read : (toks : List Lexeme) → row (reader b r n) (may_open b) [] [] toks ≡ some_row [] toks
    nothing_read toks = refl

most : (f : Form) → below f ≤ 4
unfolding below
most forms.Brackets = omega arith
most f = omega arith

-- a node among the parts of one that it adds height to, or not
pub node_of_simple : (b r n : ℕ) (m : Fields) (f : Form) (ts : Syntaxes) (rest : List Lexeme) → is_simple f ≡ true → (is_heavy f ≡ false → below f ≤ n) → AllRead ts → Fits (Node f ts) → height_of (Node f ts) ≤ suc r → nesting (Node f ts) ≤ b → Tail (rule f) (last_open ts) rest → (h : Bool) → is_heavy f ≡ h → node (pick (reader b r 4) (reader b (suc r) n) h) (may_open b) m f (flat (Node f ts) ++ rest) ≡ some_found (Node f ts) rest
unfolding nesting
node_of_simple b r n m f ts rest e layers read fits high nested tail true h =
    node_simple b r 4 m f ts rest e (inl (tall_rule f e h)) (most f) read fits (omega (arith, subst (λ (x : Bool). cond x 1 0 + highest ts ≤ suc r) h high)) nested tail
node_of_simple b r n m f ts rest e layers read fits high nested tail false h =
    node_simple b (suc r) n m f ts rest e (inr (omega arith)) (layers h) read fits (omega (arith, subst (λ (x : Bool). cond x 1 0 + highest ts ≤ suc r) h high)) nested tail
