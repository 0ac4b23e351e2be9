-- Where the tokens are those of a name with fields, of a set or of a declaration of channels, it is read.
use Rattle.std.proofs.Common.{◌≡◌, ℕ, suc, ◌<◌, ◌≤◌, List, [], ◌∷◌, ◌++◌, length, max, Bool, true, false, cond, not, None, refl, sym, ap, subst, ◌∙◌, append_assoc, arith, ◌&&◌, inl, inr}
use Rattle.std.proofs.lemmas.List.{append-nil}
use Rattle.std.proofs.Math.Nat.{le-max_left, le-max_right}
use Rattle.tokens.specs.Lexeme.{Lexeme, Name, Kept, Sign}
use Rattle.tokens.specs.declared.symbol.Symbol.TheVariants as symbols
use Rattle.tokens.specs.declared.keyword.Keyword.TheVariants as keywords
use Rattle.syntax.specs.declared.piece.Sign.TheVariants as signs
use Rattle.syntax.specs.declared.piece.Fields.{Fields}
use Rattle.syntax.specs.declared.piece.Fields.TheVariants as fields
use Rattle.syntax.specs.declared.piece.Kind.TheVariants as kinds
use Rattle.syntax.specs.declared.piece.Place.TheVariants as places
use Rattle.syntax.specs.declared.piece.Start.TheVariants as starts
use Rattle.syntax.specs.declared.piece.Piece.{Piece}
use Rattle.syntax.specs.declared.piece.Piece.TheVariants as pieces
use Rattle.syntax.specs.declared.form.Form.{Form}
use Rattle.syntax.specs.declared.form.Form.TheVariants as forms
use Rattle.syntax.specs.Rules.{rule}
use Rattle.syntax.specs.Grammar.{Syntax, Called, Node, Syntaxes, NoSyntax, MoreSyntax, flat, spell, spell_signs, spell_part, height_of, highest, nesting, nests, nests_part, is_open, is_last, last_open, takes_fields, may_stand, Fits, FitAll}
use Rattle.syntax.specs.Parsing.{is_sign, begins_field, another, row, front, back, turned, node, reader, may_open, step, name_at, others}
use Rattle.syntax.proofs.Sound.{some_of}
use Rattle.syntax.proofs.Branches.{some_found, some_row, node_is}
use Rattle.syntax.proofs.CompleteBools.{false_true}
use Rattle.syntax.proofs.CompleteFollow.{quiet, quiet_symbol, declares, Follows, closes, declares_none}
use Rattle.syntax.proofs.CompleteGoal.{rank, is_read_kind, AllRead}
use Rattle.syntax.proofs.CompleteTall.{tall}
use Rattle.syntax.proofs.CompleteRow.{none_left, listed, syntaxes_listed, found_row, NoMore, Apart, apart_next, linked, ranked, joins, continues, separates, ends_with, halts, wants_shut, shutting, Tail, tall_pieces, part_follows, others_complete, count_length, row_complete}
use Rattle.syntax.proofs.CompleteNode.{linked_more}

-- ---- a name with its fields

-- further fields, where a name takes such fields
abbrev pub further : Fields → List Piece
further m = pieces.Others places.Outside kinds.Field (starts.Field m) ∷ []

spelled_fields : (m : Fields) (ts : Syntaxes) → spell ts (further fields.Any) ≡ spell ts (further m)
unfolding spell spell_signs spell_part
spelled_fields m NoSyntax = refl
spelled_fields m (MoreSyntax t ts) = ap (λ (xs : List Lexeme). flat t ++ xs) (spelled_fields m ts)

fitting_fields : (m : Fields) (ts : Syntaxes) → FitAll ts (further fields.Any) → FitAll ts (further m)
fitting_fields m NoSyntax h = h
fitting_fields m (MoreSyntax t ts) h = (h.0, (h.1.0, fitting_fields m ts h.1.1))

nested_fields : (m : Fields) (ts : Syntaxes) → nests ts (further m) ≡ nests ts (further fields.Any)
unfolding nests nests_part
nested_fields m NoSyntax = refl
nested_fields m (MoreSyntax t ts) = ap (max (nesting t)) (nested_fields m ts)

no_field : (m : Fields) (rest : List Lexeme) → begins_field m rest ≡ false → NoMore (starts.Field m) rest
unfolding another
no_field m rest e o = at o (begins_field m rest) e
  where
    at : (o b : Bool) → b ≡ false → cond (not o && b) (some_of rest) None ≡ None
    at true b e = refl
    at false b e = ap (λ (x : Bool). cond x (some_of rest) None) e

pub node_event : (b r : ℕ) (m : Fields) (n : List ℕ) (ts : Syntaxes) (rest : List Lexeme) → AllRead ts → Fits (Node forms.Event (MoreSyntax (Called n) ts)) → takes_fields m ts ≡ true → highest ts ≤ r → nests ts (further fields.Any) ≤ b → begins_field m rest ≡ false → (is_last ts ≡ false → Follows kinds.Field (last_open ts) rest) → node (reader b r 4) (may_open b) m forms.Event (flat (Node forms.Event (MoreSyntax (Called n) ts)) ++ rest) ≡ some_found (Node forms.Event (MoreSyntax (Called n) ts)) rest
unfolding flat spell spell_signs spell_part rule row step name_at front back turned may_stand continues is_read_kind ranked rank tall wants_shut
node_event b r m n ts rest read fits takes high nested none f =
    let toks = spell ts (further fields.Any) ++ rest in
    let same : toks ≡ spell ts (further m) ++ rest = ap (λ (xs : List Lexeme). xs ++ rest) (spelled_fields m ts) in
    let fit = fitting_fields m ts fits.1.1.1 in
    let count = count_length places.Outside kinds.Field (starts.Field m) [] ts rest refl fit in
    let all : others (reader b r 4 places.Outside kinds.Field) (starts.Field m) (length (spell ts (further m) ++ rest)) (Called n ∷ []) (spell ts (further m) ++ rest) ≡ some_row (Called n ∷ listed ts) rest =
    others_complete b r 4 places.Outside kinds.Field (starts.Field m) [] rest (inl refl) refl refl refl (no_field m rest none) ts (Called n ∷ []) _ read fit takes high (subst (λ (x : ℕ). x ≤ b) (sym (nested_fields m ts)) nested) count
    (apart_next true [] (Called n) ts (λ e. (refl, fits.0))) f in
    let whole : row (reader b r 4) (may_open b) (back m forms.Event) [] (Name n ∷ toks) ≡ some_row (Called n ∷ listed ts) rest =
    ap (λ (xs : List Lexeme). row (reader b r 4) (may_open b) (further m) (Called n ∷ []) xs) same
    ∙ ap (found_row (reader b r 4) (may_open b) []) all in
    node_is (reader b r 4) (may_open b) m forms.Event forms.Event (Name n ∷ toks) (Name n ∷ toks) rest [] (back m forms.Event) [] [] (Called n ∷ listed ts) (Node forms.Event (MoreSyntax (Called n) ts)) refl refl refl refl refl whole (ap (λ (us : Syntaxes). Node forms.Event (MoreSyntax (Called n) us)) (sym (syntaxes_listed ts)))

-- ---- forms that what comes after their first part tells apart

-- a form whose rule is read in two goes
pub record Split (b r n : ℕ) (m : Fields) (f g : Form) (qs : List Piece) (t : Syntax) (ts : Syntaxes) (rest : List Lexeme) : Type 0 where
  pub turns : turned f (spell ts qs ++ rest) ≡ g
  pub front_is : row (reader b r n) (may_open b) (front f) [] (flat (Node g (MoreSyntax t ts)) ++ rest) ≡ some_row (t ∷ []) (spell ts qs ++ rest)
  pub back_is : row (reader b r n) (may_open b) (back m g) (t ∷ []) (spell ts qs ++ rest) ≡ some_row (t ∷ listed ts) rest

pub node_split : (b r n : ℕ) (m : Fields) (f g : Form) (qs : List Piece) (t : Syntax) (ts : Syntaxes) (rest : List Lexeme) → Split b r n m f g qs t ts rest → node (reader b r n) (may_open b) m f (flat (Node g (MoreSyntax t ts)) ++ rest) ≡ some_found (Node g (MoreSyntax t ts)) rest
node_split b r n m f g qs t ts rest w =
    node_is (reader b r n) (may_open b) m f g (flat (Node g (MoreSyntax t ts)) ++ rest) (spell ts qs ++ rest) rest (front f) (back m g) [] (t ∷ []) (t ∷ listed ts) (Node g (MoreSyntax t ts)) refl refl w.front_is (sym w.turns) refl w.back_is (ap (λ (us : Syntaxes). Node g (MoreSyntax t us)) (sym (syntaxes_listed ts)))

-- a set's first member
abbrev opened_set : List Piece → List Piece
opened_set qs = pieces.Open symbols.OpenBrace ∷ pieces.Part places.Inside (kinds.Phrase 16) ∷ qs

behind_one : (x : Lexeme) (t : Syntax) (s rest : List Lexeme) → (x ∷ (flat t ++ s)) ++ rest ≡ (x ∷ (flat t ++ [])) ++ (s ++ rest)
behind_one x t s rest = ap (λ (xs : List Lexeme). x ∷ xs) (append_assoc (flat t) s rest ∙ ap (λ (xs : List Lexeme). xs ++ (s ++ rest)) (sym (append-nil (flat t))))

member_read : (b r : ℕ) (qs : List Piece) (t : Syntax) (ts : Syntaxes) (rest : List Lexeme) → (joins (kinds.Phrase 16) qs ≡ true) → FitAll (MoreSyntax t ts) (opened_set qs) → AllRead (MoreSyntax t NoSyntax) → height_of t ≤ r → suc (nesting t) ≤ b → Tail (pieces.Part places.Inside (kinds.Phrase 16) ∷ qs) (last_open (MoreSyntax t ts)) rest → Apart (shutting qs) (t ∷ []) ts → row (reader b r 4) (may_open b) (opened_set []) [] ((Sign symbols.OpenBrace ∷ (flat t ++ spell ts qs)) ++ rest) ≡ some_row (t ∷ []) (spell ts qs ++ rest)
unfolding spell spell_signs spell_part linked ranked rank is_read_kind joins tall_pieces tall shutting nests nests_part last_open
member_read b r qs t ts rest e fits read high nested tail apart =
    ap (row (reader b r 4) (may_open b) (opened_set []) []) (behind_one (Sign symbols.OpenBrace) t (spell ts qs) rest)
    ∙ row_complete b r 4 (opened_set []) (is_open t) (spell ts qs ++ rest) (MoreSyntax t NoSyntax) [] (inl refl) refl (λ o. omega (arith, nested)) read (fits.0, (fits.1.0, refl)) (omega (arith, high)) (omega (arith, nested)) (λ n. absurd (false_true n))
    (part_follows places.Inside (kinds.Phrase 16) qs t ts [] (last_open (MoreSyntax t ts)) rest e fits.1.1 tail (λ l. refl) apart) (λ l. refl)

abbrev more_members : List Piece
more_members = pieces.Others places.Inside (kinds.Phrase 16) (starts.Behind symbols.Comma) ∷ pieces.Sign (signs.Symbol symbols.CloseBrace) ∷ []

abbrev range_end : List Piece
range_end = pieces.Sign (signs.Symbol symbols.Range) ∷ pieces.Part places.Inside (kinds.Phrase 16) ∷ pieces.Sign (signs.Symbol symbols.CloseBrace) ∷ []

still_set : (ts : Syntaxes) (rest : List Lexeme) → turned forms.Set (spell ts more_members ++ rest) ≡ forms.Set
unfolding turned spell spell_signs spell_part
still_set NoSyntax rest = refl
still_set (MoreSyntax t ts) rest = refl

now_range : (ts : Syntaxes) (rest : List Lexeme) → turned forms.Set (spell ts range_end ++ rest) ≡ forms.Range
unfolding turned spell spell_signs spell_part
now_range NoSyntax rest = refl
now_range (MoreSyntax t ts) rest = refl

pub node_set : (b r : ℕ) (m : Fields) (ts : Syntaxes) (rest : List Lexeme) → AllRead ts → Fits (Node forms.Set ts) → highest ts ≤ r → nests ts (rule forms.Set) ≤ b → node (reader b r 4) (may_open b) m forms.Set (flat (Node forms.Set ts) ++ rest) ≡ some_found (Node forms.Set ts) rest
unfolding flat rule front back spell spell_part linked ranked rank is_read_kind joins separates continues ends_with halts closes quiet quiet_symbol is_sign tall_pieces tall shutting wants_shut nests nests_part last_open
node_set b r m NoSyntax rest read fits high nested = absurd (false_true fits.1)
node_set b r m (MoreSyntax t ts) rest read fits high nested =
    node_split b r 4 m forms.Set forms.Set more_members t ts rest (record {
      turns = still_set ts rest;
      front_is = member_read b r more_members t ts rest refl fits.1 (read.0, tt) (omega (arith, high, le-max_left (height_of t) (highest ts))) (omega (arith, nested, le-max_left (suc (nesting t)) (nests ts more_members))) tt (λ e. absurd (false_true e));
      back_is = row_complete b r 4 more_members (last_open ts) rest ts (t ∷ []) (inl refl) refl (λ e. absurd (false_true e)) read.1 fits.1.1.1 (omega (arith, high, le-max_right (height_of t) (highest ts))) (omega (arith, nested, le-max_right (suc (nesting t)) (nests ts more_members))) (λ e. absurd (false_true e)) tt (λ l. refl);
    })

pub node_range : (b r : ℕ) (m : Fields) (ts : Syntaxes) (rest : List Lexeme) → AllRead ts → Fits (Node forms.Range ts) → highest ts ≤ r → nests ts (rule forms.Range) ≤ b → node (reader b r 4) (may_open b) m forms.Set (flat (Node forms.Range ts) ++ rest) ≡ some_found (Node forms.Range ts) rest
unfolding flat rule front back spell spell_part linked ranked rank is_read_kind joins separates continues ends_with halts closes quiet quiet_symbol is_sign tall_pieces tall shutting wants_shut nests nests_part last_open
node_range b r m NoSyntax rest read fits high nested = absurd (false_true fits.1)
node_range b r m (MoreSyntax t ts) rest read fits high nested =
    node_split b r 4 m forms.Set forms.Range range_end t ts rest (record {
      turns = now_range ts rest;
      front_is = member_read b r range_end t ts rest refl fits.1 (read.0, tt) (omega (arith, high, le-max_left (height_of t) (highest ts))) (omega (arith, nested, le-max_left (suc (nesting t)) (nests ts range_end))) tt (λ e. absurd (false_true e));
      back_is = row_complete b r 4 range_end (last_open ts) rest ts (t ∷ []) (inl refl) refl (λ e. absurd (false_true e)) read.1 fits.1.1.1 (omega (arith, high, le-max_right (height_of t) (highest ts))) (omega (arith, nested, le-max_right (suc (nesting t)) (nests ts range_end))) (λ e. absurd (false_true e)) tt (λ l. refl);
    })

-- ---- declarations of channels

abbrev channel : List Piece → List Piece
channel qs = pieces.Sign (signs.Keyword keywords.Channel) ∷ pieces.Part places.Outside kinds.Names ∷ qs

abbrev sets_end : List Piece
sets_end = pieces.Sign (signs.Symbol symbols.Colon) ∷ pieces.Part places.Outside kinds.FieldSets ∷ []

still_channels : (rest : List Lexeme) → declares rest ≡ true → turned forms.Channels rest ≡ forms.Channels
unfolding turned declares
still_channels (Sign symbols.Colon ∷ rest) e = absurd cc
still_channels rest e = refl

now_with_fields : (ts : Syntaxes) (rest : List Lexeme) → turned forms.Channels (spell ts sets_end ++ rest) ≡ forms.ChannelsWithFields
unfolding turned spell spell_signs spell_part
now_with_fields NoSyntax rest = refl
now_with_fields (MoreSyntax t ts) rest = refl

abbrev channels_linked : ℕ → Type 0
channels_linked n = linked n (channel []) ≡ true

two_layers : (n : ℕ) → 2 ≤ n → channels_linked n
unfolding linked ranked rank is_read_kind joins
two_layers n h = linked_more 2 n (channel []) h refl

names_read : (b r n : ℕ) (qs : List Piece) (t : Syntax) (ts : Syntaxes) (rest : List Lexeme) → 0 < r → 2 ≤ n → (joins kinds.Names qs ≡ true) → FitAll (MoreSyntax t ts) (channel qs) → AllRead (MoreSyntax t NoSyntax) → height_of t ≤ r → nesting t ≤ b → Tail (pieces.Part places.Outside kinds.Names ∷ qs) (last_open (MoreSyntax t ts)) rest → Apart (shutting qs) (t ∷ []) ts → row (reader b r n) (may_open b) (channel []) [] ((Kept keywords.Channel ∷ (flat t ++ spell ts qs)) ++ rest) ≡ some_row (t ∷ []) (spell ts qs ++ rest)
unfolding spell spell_signs spell_part tall_pieces shutting nests nests_part last_open
names_read b r n qs t ts rest positive layers e fits read high nested tail apart =
    ap (row (reader b r n) (may_open b) (channel []) []) (behind_one (Kept keywords.Channel) t (spell ts qs) rest)
    ∙ row_complete b r n (channel []) (is_open t) (spell ts qs ++ rest) (MoreSyntax t NoSyntax) [] (inr positive) (two_layers n layers) (λ o. absurd (false_true o)) read (fits.0, (fits.1.0, refl)) (omega (arith, high)) (omega (arith, nested)) (λ n. absurd (false_true n))
    (part_follows places.Outside kinds.Names qs t ts [] (last_open (MoreSyntax t ts)) rest e fits.1.1 tail (λ l. refl) apart) (λ l. refl)

pub node_channels : (b r n : ℕ) (m : Fields) (ts : Syntaxes) (rest : List Lexeme) → 0 < r → 2 ≤ n → AllRead ts → Fits (Node forms.Channels ts) → highest ts ≤ r → nests ts (rule forms.Channels) ≤ b → declares rest ≡ true → node (reader b r n) (may_open b) m forms.Channels (flat (Node forms.Channels ts) ++ rest) ≡ some_found (Node forms.Channels ts) rest
unfolding flat rule row front back spell spell_signs spell_part joins shutting nests nests_part
node_channels b r n m NoSyntax rest positive layers read fits high nested follows = absurd (false_true fits.1)
node_channels b r n m (MoreSyntax t (MoreSyntax u us)) rest positive layers read fits high nested follows = absurd (none_left u (FitAll us) fits.1.1.1.1)
node_channels b r n m (MoreSyntax t NoSyntax) rest positive layers read fits high nested follows =
    node_split b r n m forms.Channels forms.Channels [] t NoSyntax rest (record {
      turns = still_channels rest follows;
      front_is = names_read b r n [] t NoSyntax rest positive layers refl fits.1 read (omega (arith, high)) (omega (arith, nested)) (declares_none symbols.Comma rest follows) (λ e. absurd (false_true e));
      back_is = refl;
    })

pub node_channels_with_fields : (b r n : ℕ) (m : Fields) (ts : Syntaxes) (rest : List Lexeme) → 0 < r → 2 ≤ n → AllRead ts → Fits (Node forms.ChannelsWithFields ts) → highest ts ≤ r → nests ts (rule forms.ChannelsWithFields) ≤ b → Follows kinds.FieldSets (last_open ts) rest → node (reader b r n) (may_open b) m forms.Channels (flat (Node forms.ChannelsWithFields ts) ++ rest) ≡ some_found (Node forms.ChannelsWithFields ts) rest
unfolding flat rule front back spell spell_part linked ranked rank is_read_kind joins closes is_sign tall_pieces tall shutting nests nests_part last_open
node_channels_with_fields b r n m NoSyntax rest positive layers read fits high nested follows = absurd (false_true fits.1)
node_channels_with_fields b r n m (MoreSyntax t NoSyntax) rest positive layers read fits high nested follows = absurd (false_true fits.1.1.1)
node_channels_with_fields b r n m (MoreSyntax t (MoreSyntax u us)) rest positive layers read fits high nested follows =
    let ts = MoreSyntax u us in
    node_split b r n m forms.Channels forms.ChannelsWithFields sets_end t ts rest (record {
      turns = now_with_fields ts rest;
      front_is = names_read b r n sets_end t ts rest positive layers refl fits.1 (read.0, tt) (omega (arith, high, le-max_left (height_of t) (highest ts))) (omega (arith, nested, le-max_left (nesting t) (nests ts sets_end))) follows (λ e. absurd (false_true e));
      back_is = row_complete b r n sets_end (last_open ts) rest ts (t ∷ []) (inr positive) (linked_more 2 n sets_end layers refl) (λ e. absurd (false_true e)) read.1 fits.1.1.1 (omega (arith, high, le-max_right (height_of t) (highest ts))) (omega (arith, nested, le-max_right (nesting t) (nests ts sets_end))) (λ e. absurd (false_true e)) follows (λ l. refl);
    })
