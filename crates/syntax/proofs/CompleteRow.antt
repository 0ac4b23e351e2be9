-- Where the tokens are those of a rule's parts, the pieces of the rule read them.
use Rattle.std.proofs.Common.{◌≡◌, ℕ, zero, suc, ◌-◌, ◌<◌, ◌≤◌, List, [], ◌∷◌, ◌++◌, length, Bool, true, false, cond, not, Option, None, refl, sym, ap, subst, ◌∙◌, append_assoc, arith, ◌&&◌, ◌||◌, ◌⊎◌, inl, inr}
use Rattle.std.specs.Prelude.{nat_le}
use Rattle.std.proofs.lemmas.Bool.{leb-true}
use Rattle.std.proofs.lemmas.List.{append-nil, length-append}
use Rattle.std.proofs.Math.Nat.{le-max_left, le-max_right}
use denote.Enum.Bare.{true_same}
use Rattle.tokens.specs.contracts.symbol.Symbol.{the_type as symbol_type}
use Rattle.tokens.specs.contracts.keyword.Keyword.{the_type as keyword_type}
use Rattle.tokens.specs.Lexeme.{Lexeme, Sign}
use Rattle.tokens.specs.declared.symbol.Symbol.{Symbol}
use Rattle.tokens.specs.declared.symbol.Symbol.TheVariants as symbols
use Rattle.syntax.specs.declared.piece.Sign.{Sign as Signs}
use Rattle.syntax.specs.declared.piece.Sign.TheVariants as signs
use Rattle.syntax.specs.declared.piece.Fields.{Fields}
use Rattle.syntax.specs.declared.piece.Fields.TheVariants as fields
use Rattle.syntax.specs.declared.piece.Kind.{Kind}
use Rattle.syntax.specs.declared.piece.Kind.TheVariants as kinds
use Rattle.syntax.specs.declared.piece.Place.{Place}
use Rattle.syntax.specs.declared.piece.Place.TheVariants as places
use Rattle.syntax.specs.declared.piece.Start.{Start}
use Rattle.syntax.specs.declared.piece.Start.TheVariants as starts
use Rattle.syntax.specs.declared.piece.Piece.{Piece}
use Rattle.syntax.specs.declared.piece.Piece.TheVariants as pieces
use Rattle.syntax.specs.Grammar.{Syntax, Called, Numeral, Node, Syntaxes, NoSyntax, MoreSyntax, sign_lexeme, before, flat, spell, spell_signs, spell_part, height_of, highest, nesting, nests, nests_part, within, opens_any, is, is_called, is_open, is_last, last_open, takes_field, takes_fields, shut, Fits, FitAll, FitsPart}
use Rattle.syntax.specs.Parsing.{◌>>=◌, Found, Row, Reader, syntaxes, is_sign, after, name_at, begins_field, another, last_is_open, others, put, keep, step, row, reader, may_open}
use Rattle.syntax.proofs.Sound.{some_of, only_signs, spell_sign, spell_open}
use Rattle.syntax.proofs.Branches.{some_found, some_row, others_stop, others_next}
use Rattle.syntax.proofs.Steps.{may_open_some, inside_step}
use Rattle.syntax.proofs.Lists.{open_push}
use Rattle.syntax.proofs.CompleteBools.{false_true, true_false, both_true}
use Rattle.syntax.proofs.CompleteFollow.{no_sign, calm, Follows, closes, closes_follows}
use Rattle.syntax.proofs.CompleteFirst.{fits_sign, fits_open, field_first, field_some, declaration_first, declaration_some}
use Rattle.syntax.proofs.CompleteGoal.{rank, is_read_kind, IsRead, AllRead}
use Rattle.syntax.proofs.CompleteTall.{tall, has_room}

-- ---- parts as a list

abbrev pub listed : Syntaxes → List Syntax
listed NoSyntax = []
listed (MoreSyntax t ts) = t ∷ listed ts

pub syntaxes_listed : (ts : Syntaxes) → syntaxes (listed ts) ≡ ts
syntaxes_listed NoSyntax = refl
syntaxes_listed (MoreSyntax t ts) = ap (MoreSyntax t) (syntaxes_listed ts)

abbrev pub how_many : Syntaxes → ℕ
how_many NoSyntax = 0
how_many (MoreSyntax t ts) = suc (how_many ts)

-- ---- signs

is_sign_itself : (s : Signs) → is_sign s (sign_lexeme s) ≡ true
unfolding is_sign
is_sign_itself (signs.Symbol s) = true_same symbol_type s s refl
is_sign_itself (signs.Keyword k) = true_same keyword_type k k refl

pub after_sign : (s : Signs) (rest : List Lexeme) → after s (sign_lexeme s ∷ rest) ≡ some_of rest
unfolding after
after_sign s rest = ap (λ (b : Bool). cond b (some_of rest) None) (is_sign_itself s)

-- ---- one part in its place

pub rank_most : (k : Kind) → rank k ≤ 4
unfolding rank
rank_most kinds.Value = omega arith
rank_most kinds.Script = omega arith
rank_most k = omega arith

unfoldable pub ranked : Place → ℕ → Kind → Bool
ranked places.Outside n k = nat_le (rank k) n
ranked places.Inside n k = true

pub part_read : (b r n : ℕ) (place : Place) (k : Kind) (t : Syntax) (rest : List Lexeme) → IsRead t → is_read_kind k ≡ true → is k t ≡ true → 0 < r → height_of t ≤ r → within place (nesting t) ≤ b → ranked place n k ≡ true → Follows k (is_open t) rest → reader b r n place k (flat t ++ rest) ≡ some_found t rest
unfolding ranked
part_read b r n places.Outside k t rest read kind fits positive high nested e follows =
    read b r n k rest kind fits positive high nested (leb-true _ _ e) follows
part_read b r n places.Inside k t rest read kind fits positive high nested e follows =
    inside_step b r k (flat t ++ rest) (omega (arith, nested))
    ∙ read (b - 1) r 4 k rest kind fits positive high (omega (arith, nested)) (rank_most k) follows

-- ---- how further parts stand one after another

-- one more part is looked for only after one that is not open
unfoldable pub wants_shut : Start → Bool
wants_shut starts.Dot = true
wants_shut (starts.Field m) = true
wants_shut start = false

abbrev pub fields_at : Start → Fields
fields_at (starts.Field m) = m
fields_at start = fields.Any

-- what stands before one more part ends the part before it
unfoldable pub separates : Kind → Start → Bool
separates k (starts.Behind s) = closes k (signs.Symbol s)
separates (kinds.Atom fields.Undotted) starts.Dot = true
separates k start = false

unfoldable pub continues : Kind → Start → Bool
continues kinds.Field (starts.Field m) = true
continues kinds.Declaration starts.Any = true
continues k start = separates k start

separated : (k : Kind) (start : Start) (o : Bool) (toks : List Lexeme) → separates k start ≡ true → (wants_shut start ≡ true → o ≡ false) → Follows k o (before start ++ toks)
unfolding separates wants_shut calm begins_field
separated k (starts.Behind s) o toks e shuts = closes_follows k (signs.Symbol s) o toks e
separated (kinds.Atom fields.Undotted) starts.Dot o toks e shuts = (refl, refl, λ h. absurd (true_false o h (shuts refl)))
separated k start o toks e shuts = absurd (false_true e)

continued : (k : Kind) (start : Start) (o : Bool) (u : Syntax) (toks : List Lexeme) → continues k start ≡ true → is k u ≡ true → Fits u → takes_field (fields_at start) u ≡ true → (wants_shut start ≡ true → o ≡ false) → Follows k o (before start ++ (flat u ++ toks))
unfolding continues wants_shut is begins_field
continued kinds.Field (starts.Field m) o u toks e kind fits takes shuts =
    ((field_first m u toks kind takes).is_calm, none_begins (flat u ++ toks), λ h. absurd (true_false o h (shuts refl)))
  where
    none_begins : (xs : List Lexeme) → begins_field fields.None xs ≡ false
    none_begins xs = refl
continued kinds.Declaration starts.Any o u toks e kind fits takes shuts = declaration_first u toks kind fits
continued k start o u toks e kind fits takes shuts = separated k start o (flat u ++ toks) e shuts

found_another : (k : Kind) (start : Start) (o : Bool) (u : Syntax) (toks : List Lexeme) → continues k start ≡ true → is k u ≡ true → Fits u → takes_field (fields_at start) u ≡ true → (wants_shut start ≡ true → o ≡ false) → another start o (before start ++ (flat u ++ toks)) ≡ some_of (flat u ++ toks)
unfolding another continues separates wants_shut is
found_another k (starts.Behind s) o u toks e kind fits takes shuts = after_sign (signs.Symbol s) (flat u ++ toks)
found_another k starts.Dot o u toks e kind fits takes shuts =
    ap (λ (b : Bool). cond b None (after (signs.Symbol symbols.Dot) (Sign symbols.Dot ∷ (flat u ++ toks)))) (shuts refl) ∙ after_sign (signs.Symbol symbols.Dot) (flat u ++ toks)
found_another kinds.Field (starts.Field m) o u toks e kind fits takes shuts =
    ap (λ (b : Bool). cond (not b && begins_field m (flat u ++ toks)) (some_of (flat u ++ toks)) None) (shuts refl)
    ∙ ap (λ (b : Bool). cond b (some_of (flat u ++ toks)) None) (field_first m u toks kind takes).begins
found_another kinds.Declaration starts.Any o u toks e kind fits takes shuts = any_more (flat u) (declaration_some u kind fits)
  where
    any_more : (xs : List Lexeme) → 0 < length xs → another starts.Any o (xs ++ toks) ≡ some_of (xs ++ toks)
    any_more [] h = absurd (omega (arith, h))
    any_more (x ∷ xs) h = refl
found_another k start o u toks e kind fits takes shuts = absurd (false_true e)

some_more : (k : Kind) (start : Start) (u : Syntax) → continues k start ≡ true → is k u ≡ true → Fits u → 0 < length (before start ++ flat u)
unfolding continues separates is
some_more k (starts.Behind s) u e kind fits = omega arith
some_more k starts.Dot u e kind fits = omega arith
some_more kinds.Field (starts.Field m) u e kind fits = field_some u kind
some_more kinds.Declaration starts.Any u e kind fits = declaration_some u kind fits
some_more k start u e kind fits = absurd (false_true e)

-- what after the last part is no further part
abbrev pub NoMore : Start → List Lexeme → Type 0
NoMore start rest = (o : Bool) → another start o rest ≡ None

-- no part that is open stands before another where that is asked
abbrev pub Apart : Bool → List Syntax → Syntaxes → Type 0
Apart needs front ts = needs ≡ true → ((is_last ts || not (last_is_open front)) ≡ true) × (shut ts ≡ true)

or_not : (b : Bool) → (false || not b) ≡ true → b ≡ false
or_not true e = absurd cc
or_not false e = refl

apart_shut : (needs : Bool) (front : List Syntax) (u : Syntax) (us : Syntaxes) → Apart needs front (MoreSyntax u us) → needs ≡ true → last_is_open front ≡ false
apart_shut needs front u us a e = or_not (last_is_open front) (a e).0

pub apart_next : (needs : Bool) (front : List Syntax) (u : Syntax) (us : Syntaxes) → Apart needs front (MoreSyntax u us) → Apart needs (front ++ u ∷ []) us
unfolding shut
apart_next needs front u us a e =
    let h = both_true (is_last us || not (is_open u)) (shut us) (a e).1 in
    (ap (λ (b : Bool). is_last us || not b) (open_push front u) ∙ h.0, h.1)

later_open : (u : Syntax) (us : Syntaxes) → is_last us ≡ false → last_open (MoreSyntax u us) ≡ last_open us
unfolding last_open
later_open u NoSyntax e = absurd cc
later_open u (MoreSyntax v vs) e = refl

spelled_more : (place : Place) (k : Kind) (start : Start) (ps : List Piece) (u : Syntax) (us : Syntaxes) (rest : List Lexeme) → spell (MoreSyntax u us) (pieces.Others place k start ∷ ps) ++ rest ≡ before start ++ (flat u ++ (spell us (pieces.Others place k start ∷ ps) ++ rest))
unfolding spell spell_part
spelled_more place k start ps u us rest =
    let s = spell us (pieces.Others place k start ∷ ps) in
    append_assoc (before start) (flat u ++ s) rest ∙ ap (λ (xs : List Lexeme). before start ++ xs) (append_assoc (flat u) s rest)

pub count_length : (place : Place) (k : Kind) (start : Start) (ps : List Piece) (ts : Syntaxes) (rest : List Lexeme) → continues k start ≡ true → FitAll ts (pieces.Others place k start ∷ ps) → how_many ts ≤ length (spell ts (pieces.Others place k start ∷ ps) ++ rest)
count_length place k start ps NoSyntax rest e fits = omega arith
count_length place k start ps (MoreSyntax u us) rest e fits =
    let s = spell us (pieces.Others place k start ∷ ps) ++ rest in
    let one = some_more k start u e fits.1.0 fits.0 in
    let longer : suc (how_many us) ≤ length (before start ++ (flat u ++ s)) =
    omega (arith, one, count_length place k start ps us rest e fits.1.1, length-append (before start) (flat u ++ s), length-append (flat u) s, length-append (before start) (flat u)) in
    subst (λ (xs : List Lexeme). suc (how_many us) ≤ length xs) (sym (spelled_more place k start ps u us rest)) longer

-- what comes after a part among others ends it
next_follows : (place : Place) (k : Kind) (start : Start) (ps : List Piece) (rest : List Lexeme) (front : List Syntax) (u : Syntax) (us : Syntaxes) → continues k start ≡ true → FitAll us (pieces.Others place k start ∷ ps) → takes_fields (fields_at start) us ≡ true → Apart (wants_shut start) (front ++ u ∷ []) us → Follows k (last_open (MoreSyntax u us)) (spell_signs ps ++ rest) → Follows k (is_open u) (spell us (pieces.Others place k start ∷ ps) ++ rest)
unfolding last_open spell spell_signs takes_fields
next_follows place k start ps rest front u NoSyntax e fits takes apart f = f
next_follows place k start ps rest front u (MoreSyntax v vs) e fits takes apart f =
    subst (Follows k (is_open u)) (sym (spelled_more place k start ps v vs rest))
    (continued k start (is_open u) v _ e fits.1.0 fits.0 (both_true (takes_field (fields_at start) v) (takes_fields (fields_at start) vs) takes).0
    (λ w. sym (open_push front u) ∙ apart_shut (wants_shut start) (front ++ u ∷ []) v vs apart w))

pub others_complete : (b r n : ℕ) (place : Place) (k : Kind) (start : Start) (ps : List Piece) (rest : List Lexeme) → (tall k ≡ true) ⊎ (0 < r) → continues k start ≡ true → is_read_kind k ≡ true → ranked place n k ≡ true → NoMore start (spell_signs ps ++ rest) → (ts : Syntaxes) (front : List Syntax) (m : ℕ) → AllRead ts → FitAll ts (pieces.Others place k start ∷ ps) → takes_fields (fields_at start) ts ≡ true → highest ts ≤ r → nests ts (pieces.Others place k start ∷ ps) ≤ b → how_many ts ≤ m → Apart (wants_shut start) front ts → (is_last ts ≡ false → Follows k (last_open ts) (spell_signs ps ++ rest)) → others (reader b r n place k) start m front (spell ts (pieces.Others place k start ∷ ps) ++ rest) ≡ some_row (front ++ listed ts) (spell_signs ps ++ rest)
unfolding spell spell_signs takes_fields nests nests_part
others_complete b r n place k start ps rest positive e kind rank none NoSyntax front m read fits takes high nested count apart f =
    others_stop (reader b r n place k) start m front (spell_signs ps ++ rest) (last_is_open front) refl (sym (none (last_is_open front)))
    ∙ ap (λ (xs : List Syntax). some_row xs (spell_signs ps ++ rest)) (sym (append-nil front))
others_complete b r n place k start ps rest positive e kind rank none (MoreSyntax u us) front zero read fits takes high nested count apart f = absurd (omega (arith, count))
others_complete b r n place k start ps rest positive e kind rank none (MoreSyntax u us) front (suc m) read fits takes high nested count apart f =
    let part = reader b r n place k in
    let s = spell us (pieces.Others place k start ∷ ps) ++ rest in
    let t = both_true (takes_field (fields_at start) u) (takes_fields (fields_at start) us) takes in
    let apart' = apart_next (wants_shut start) front u us apart in
    let low : height_of u ≤ r = omega (arith, high, le-max_left (height_of u) (highest us)) in
    let first : part (flat u ++ s) ≡ some_found u s =
    part_read b r n place k u s read.0.0 kind fits.1.0 (has_room r k u positive kind fits.1.0 fits.0 low) low (omega (arith, nested, le-max_left (within place (nesting u)) (nests us (pieces.Others place k start ∷ ps)))) rank
    (next_follows place k start ps rest front u us e fits.1.1 t.1 apart' (f refl)) in
    ap (others part start (suc m) front) (spelled_more place k start ps u us rest)
    ∙ sym (others_next part start (suc m) m front (front ++ u ∷ []) (before start ++ (flat u ++ s)) (flat u ++ s) s u (last_is_open front) (omega arith) (omega arith) refl
    (sym (found_another k start (last_is_open front) u s e fits.1.0 fits.0 t.0 (apart_shut (wants_shut start) front u us apart))) first refl)
    ∙ others_complete b r n place k start ps rest positive e kind rank none us (front ++ u ∷ []) m read.1 fits.1.1 t.1 (omega (arith, high, le-max_right (height_of u) (highest us))) (omega (arith, nested, le-max_right (within place (nesting u)) (nests us (pieces.Others place k start ∷ ps)))) (omega (arith, count)) apart'
    (λ l. subst (λ (o : Bool). Follows k o (spell_signs ps ++ rest)) (later_open u us l) (f refl))
    ∙ ap (λ (xs : List Syntax). some_row xs (spell_signs ps ++ rest)) (append_assoc front (u ∷ []) (listed us))

-- ---- rules

-- the sign ends both the last of further parts and their list
unfoldable pub halts : Start → Signs → Bool
halts (starts.Behind s) t = not (is_sign (signs.Symbol s) (sign_lexeme t))
halts start t = false

unfoldable pub ends_with : Kind → Start → List Piece → Bool
ends_with k start [] = true
ends_with k start (pieces.Sign s ∷ ps) = closes k s && halts start s
ends_with k start ps = false

unfoldable pub joins : Kind → List Piece → Bool
joins k [] = true
joins k (pieces.Sign s ∷ ps) = closes k s
joins k (pieces.Others place j start ∷ ps) = separates k start && ends_with k start ps
joins k ps = false

abbrev pub is_fields : Start → Bool
is_fields (starts.Field m) = true
is_fields start = false

-- each part of a rule ends before what the rule has after it, and has this many layers below it
unfoldable pub linked : ℕ → List Piece → Bool
linked n [] = true
linked n (pieces.Sign s ∷ ps) = linked n ps
linked n (pieces.Open s ∷ ps) = linked n ps
linked n (pieces.Name ∷ ps) = linked n ps
linked n (pieces.Part place k ∷ ps) = is_read_kind k && (ranked place n k && (joins k ps && linked n ps))
linked n (pieces.Others place k start ∷ ps) = is_read_kind k && (ranked place n k && (continues k start && (not (is_fields start) && (ends_with k start ps && only_signs ps))))

-- what the last piece of a rule asks of what comes after it
abbrev pub Tail : List Piece → Bool → List Lexeme → Type 0
Tail [] o rest = Unit {0}
Tail (pieces.Part place k ∷ []) o rest = Follows k o rest
Tail (pieces.Part place k ∷ pieces.Others p j start ∷ []) o rest = Follows k o rest × (Follows j o rest × NoMore start rest)
Tail (pieces.Others place k start ∷ []) o rest = Follows k o rest × NoMore start rest
Tail (p ∷ ps) o rest = Tail ps o rest

tail_part : (place : Place) (k : Kind) (ps : List Piece) (o : Bool) (rest : List Lexeme) → Tail (pieces.Part place k ∷ ps) o rest → Tail ps o rest
tail_part place k [] o rest h = tt
tail_part place k (pieces.Others p j start ∷ []) o rest h = h.1
tail_part place k (p ∷ ps) o rest h = h

unfoldable pub shutting : List Piece → Bool
shutting [] = false
shutting (pieces.Others place k start ∷ ps) = wants_shut start
shutting (p ∷ ps) = shutting ps

halted : (start : Start) (s : Signs) (rest : List Lexeme) → halts start s ≡ true → NoMore start (sign_lexeme s ∷ rest)
unfolding halts another
halted (starts.Behind s) t rest e o = no_sign s (sign_lexeme t) rest e
halted start t rest e o = absurd cc

-- after further parts
others_tail : (place : Place) (k : Kind) (start : Start) (ps : List Piece) (o : Bool) (rest : List Lexeme) → ends_with k start ps ≡ true → Tail (pieces.Others place k start ∷ ps) o rest → Follows k o (spell_signs ps ++ rest) × NoMore start (spell_signs ps ++ rest)
unfolding ends_with spell_signs
others_tail place k start [] o rest e h = h
others_tail place k start (pieces.Sign s ∷ ps) o rest e h =
    let c = both_true (closes k s) (halts start s) e in
    (closes_follows k s o (spell_signs ps ++ rest) c.0, halted start s (spell_signs ps ++ rest) c.1)
others_tail place k start (p ∷ ps) o rest e h = absurd cc

abbrev pub Opened : Syntaxes → Bool → Type 0
Opened ts o = is_last ts ≡ false → last_open ts ≡ o

opened_next : (t : Syntax) (ts : Syntaxes) (o : Bool) → Opened (MoreSyntax t ts) o → Opened ts o
opened_next t ts o h l = sym (later_open t ts l) ∙ h refl

pub none_left : (t : Syntax) (others : List Piece → Type 0) → FitsPart t others [] → ⊥
none_left t others h = h

-- what comes after a part ends it
pub part_follows : (place : Place) (k : Kind) (ps : List Piece) (t : Syntax) (ts : Syntaxes) (front : List Syntax) (o : Bool) (rest : List Lexeme) → joins k ps ≡ true → FitAll ts ps → Tail (pieces.Part place k ∷ ps) o rest → Opened (MoreSyntax t ts) o → Apart (shutting ps) (front ++ t ∷ []) ts → Follows k (is_open t) (spell ts ps ++ rest)
unfolding joins ends_with last_open spell spell_signs shutting
part_follows place k [] t NoSyntax front o rest e fits tail opened apart = subst (λ (b : Bool). Follows k b rest) (sym (opened refl)) tail
part_follows place k [] t (MoreSyntax u us) front o rest e fits tail opened apart = absurd (none_left u (FitAll us) fits.1)
part_follows place k (pieces.Sign s ∷ ps) t ts front o rest e fits tail opened apart =
    subst (λ (xs : List Lexeme). Follows k (is_open t) (xs ++ rest)) (sym (spell_sign ts s ps)) (closes_follows k s (is_open t) (spell ts ps ++ rest) e)
part_follows place k (pieces.Others p j start ∷ []) t NoSyntax front o rest e fits tail opened apart =
    subst (λ (b : Bool). Follows k b rest) (sym (opened refl)) tail.0
part_follows place k (pieces.Others p j start ∷ (pieces.Sign s ∷ ps)) t NoSyntax front o rest e fits tail opened apart =
    closes_follows k s (is_open t) (spell_signs ps ++ rest) (both_true (closes k s) (halts start s) (both_true (separates k start) (ends_with k start (pieces.Sign s ∷ ps)) e).1).0
part_follows place k (pieces.Others p j start ∷ (q ∷ ps)) t NoSyntax front o rest e fits tail opened apart = absurd (no_end (separates k start) e)
  where
    no_end : (b : Bool) → (b && false) ≡ true → ⊥
    no_end true e = cc
    no_end false e = cc
part_follows place k (pieces.Others p j start ∷ ps) t (MoreSyntax u us) front o rest e fits tail opened apart =
    subst (Follows k (is_open t)) (sym (spelled_more p j start ps u us rest))
    (separated k start (is_open t) _ (both_true (separates k start) (ends_with k start ps) e).0
    (λ w. sym (open_push front t) ∙ apart_shut (wants_shut start) (front ++ t ∷ []) u us apart w))
part_follows place k (p ∷ ps) t ts front o rest e fits tail opened apart = absurd cc

abbrev pub found_row : Reader → Bool → List Piece → Option Row → Option Row
found_row read may ps o = o >>= λ y. row read may ps y.0 y.1

signs_read : (read : Reader) (may : Bool) (ps : List Piece) (front : List Syntax) (rest : List Lexeme) → only_signs ps ≡ true → row read may ps front (spell_signs ps ++ rest) ≡ some_row front rest
unfolding row step spell_signs
signs_read read may [] front rest e = refl
signs_read read may (pieces.Sign s ∷ ps) front rest e =
    ap (λ (o : Option (List Lexeme)). found_row read may ps (o >>= keep front)) (after_sign s (spell_signs ps ++ rest)) ∙ signs_read read may ps front rest e
signs_read read may (p ∷ ps) front rest e = absurd cc

pub fewer_nests : (ts : Syntaxes) (s : Signs) (ps : List Piece) → nests ts ps ≤ nests ts (pieces.Sign s ∷ ps)
unfolding nests nests_part
fewer_nests NoSyntax s ps = omega arith
fewer_nests (MoreSyntax t ts) s ps = omega arith

pub fewer_nests_open : (ts : Syntaxes) (s : Symbol) (ps : List Piece) → nests ts ps ≤ nests ts (pieces.Open s ∷ ps)
unfolding nests nests_part
fewer_nests_open NoSyntax s ps = at (opens_any ps)
  where
    at : (b : Bool) → cond b 1 0 ≤ 1
    at true = omega arith
    at false = omega arith
fewer_nests_open (MoreSyntax t ts) s ps = omega arith

taken_any : (start : Start) (ts : Syntaxes) → not (is_fields start) ≡ true → takes_fields (fields_at start) ts ≡ true
unfolding takes_fields takes_field
taken_any (starts.Field m) ts e = absurd cc
taken_any (starts.Behind s) NoSyntax e = refl
taken_any (starts.Behind s) (MoreSyntax t ts) e = taken_any (starts.Behind s) ts e
taken_any starts.Dot NoSyntax e = refl
taken_any starts.Dot (MoreSyntax t ts) e = taken_any starts.Dot ts e
taken_any starts.Any NoSyntax e = refl
taken_any starts.Any (MoreSyntax t ts) e = taken_any starts.Any ts e

-- each part of the rule is tall
unfoldable pub tall_pieces : List Piece → Bool
tall_pieces [] = true
tall_pieces (pieces.Part place k ∷ ps) = tall k && tall_pieces ps
tall_pieces (pieces.Others place k start ∷ ps) = tall k && tall_pieces ps
tall_pieces (p ∷ ps) = tall_pieces ps

room_part : (k : Kind) (ps : List Piece) (r : ℕ) → ((tall k && tall_pieces ps) ≡ true) ⊎ (0 < r) → ((tall k ≡ true) ⊎ (0 < r)) × ((tall_pieces ps ≡ true) ⊎ (0 < r))
room_part k ps r (inl e) = let b = both_true (tall k) (tall_pieces ps) e in (inl b.0, inl b.1)
room_part k ps r (inr h) = (inr h, inr h)

-- the tokens of a rule's parts, and what may come after them, are read as these parts
pub row_complete : (b r n : ℕ) (ps : List Piece) (o : Bool) (rest : List Lexeme) (ts : Syntaxes) (front : List Syntax) → (tall_pieces ps ≡ true) ⊎ (0 < r) → linked n ps ≡ true → (opens_any ps ≡ true → 0 < b) → AllRead ts → FitAll ts ps → highest ts ≤ r → nests ts ps ≤ b → Apart (shutting ps) front ts → Tail ps o rest → Opened ts o → row (reader b r n) (may_open b) ps front (spell ts ps ++ rest) ≡ some_row (front ++ listed ts) rest
unfolding row step linked spell spell_signs spell_part flat nests nests_part is_called name_at shutting tall_pieces
row_complete b r n [] o rest NoSyntax front positive e opens read fits high nested apart tail opened = ap (λ (xs : List Syntax). some_row xs rest) (sym (append-nil front))
row_complete b r n [] o rest (MoreSyntax t ts) front positive e opens read fits high nested apart tail opened = absurd (none_left t (FitAll ts) fits.1)
row_complete b r n (pieces.Sign s ∷ ps) o rest ts front positive e opens read fits high nested apart tail opened =
    ap (row (reader b r n) (may_open b) (pieces.Sign s ∷ ps) front) (ap (λ (xs : List Lexeme). xs ++ rest) (spell_sign ts s ps))
    ∙ ap (λ (x : Option (List Lexeme)). found_row (reader b r n) (may_open b) ps (x >>= keep front)) (after_sign s (spell ts ps ++ rest))
    ∙ row_complete b r n ps o rest ts front positive e opens read (fits_sign ts s ps fits) high (omega (arith, nested, fewer_nests ts s ps)) apart tail opened
row_complete b r n (pieces.Open s ∷ ps) o rest ts front positive e opens read fits high nested apart tail opened =
    ap (row (reader b r n) (may_open b) (pieces.Open s ∷ ps) front) (ap (λ (xs : List Lexeme). xs ++ rest) (spell_open ts s ps))
    ∙ ap (λ (may : Bool). found_row (reader b r n) (may_open b) ps (cond may (after (signs.Symbol s) (Sign s ∷ (spell ts ps ++ rest)) >>= keep front) None)) (may_open_some b (opens refl))
    ∙ ap (λ (x : Option (List Lexeme)). found_row (reader b r n) (may_open b) ps (x >>= keep front)) (after_sign (signs.Symbol s) (spell ts ps ++ rest))
    ∙ row_complete b r n ps o rest ts front positive e (λ any. opens refl) read (fits_open ts s ps fits) high (omega (arith, nested, fewer_nests_open ts s ps)) apart tail opened
row_complete b r n (pieces.Name ∷ ps) o rest (MoreSyntax (Called x) ts) front positive e opens read fits high nested apart tail opened =
    row_complete b r n ps o rest ts (front ++ Called x ∷ []) positive e opens read.1 fits.1.1 (omega (arith, high, le-max_right (height_of (Called x)) (highest ts))) nested (apart_next (shutting ps) front (Called x) ts apart) tail (opened_next (Called x) ts o opened)
    ∙ ap (λ (xs : List Syntax). some_row xs rest) (append_assoc front (Called x ∷ []) (listed ts))
row_complete b r n (pieces.Name ∷ ps) o rest (MoreSyntax (Numeral x) ts) front positive e opens read fits high nested apart tail opened = absurd (true_false false fits.1.0 refl)
row_complete b r n (pieces.Name ∷ ps) o rest (MoreSyntax (Node f us) ts) front positive e opens read fits high nested apart tail opened = absurd (true_false false fits.1.0 refl)
row_complete b r n (pieces.Name ∷ ps) o rest NoSyntax front positive e opens read fits high nested apart tail opened = absurd (true_false false fits refl)
row_complete b r n (pieces.Part place k ∷ ps) o rest NoSyntax front positive e opens read fits high nested apart tail opened = absurd (true_false false fits refl)
row_complete b r n (pieces.Part place k ∷ ps) o rest (MoreSyntax t ts) front positive e opens read fits high nested apart tail opened =
    let e1 = both_true (is_read_kind k) (ranked place n k && (joins k ps && linked n ps)) e in
    let e2 = both_true (ranked place n k) (joins k ps && linked n ps) e1.1 in
    let e3 = both_true (joins k ps) (linked n ps) e2.1 in
    let s = spell ts ps ++ rest in
    let apart' = apart_next (shutting ps) front t ts apart in
    let room = room_part k ps r positive in
    let low : height_of t ≤ r = omega (arith, high, le-max_left (height_of t) (highest ts)) in
    let first : reader b r n place k (flat t ++ s) ≡ some_found t s =
    part_read b r n place k t s read.0.0 e1.0 fits.1.0 (has_room r k t room.0 e1.0 fits.1.0 fits.0 low) low (omega (arith, nested, le-max_left (within place (nesting t)) (nests ts ps))) e2.0
    (part_follows place k ps t ts front o rest e3.0 fits.1.1 tail opened apart') in
    ap (row (reader b r n) (may_open b) (pieces.Part place k ∷ ps) front) (append_assoc (flat t) (spell ts ps) rest)
    ∙ ap (λ (x : Option Found). found_row (reader b r n) (may_open b) ps (x >>= put front)) first
    ∙ row_complete b r n ps o rest ts (front ++ t ∷ []) room.1 e3.1 opens read.1 fits.1.1 (omega (arith, high, le-max_right (height_of t) (highest ts))) (omega (arith, nested, le-max_right (within place (nesting t)) (nests ts ps))) apart' (tail_part place k ps o rest tail) (opened_next t ts o opened)
    ∙ ap (λ (xs : List Syntax). some_row xs rest) (append_assoc front (t ∷ []) (listed ts))
row_complete b r n (pieces.Others place k start ∷ ps) o rest ts front positive e opens read fits high nested apart tail opened =
    let e1 = both_true (is_read_kind k) (ranked place n k && (continues k start && (not (is_fields start) && (ends_with k start ps && only_signs ps)))) e in
    let e2 = both_true (ranked place n k) (continues k start && (not (is_fields start) && (ends_with k start ps && only_signs ps))) e1.1 in
    let e3 = both_true (continues k start) (not (is_fields start) && (ends_with k start ps && only_signs ps)) e2.1 in
    let e4 = both_true (not (is_fields start)) (ends_with k start ps && only_signs ps) e3.1 in
    let e5 = both_true (ends_with k start ps) (only_signs ps) e4.1 in
    let behind = others_tail place k start ps o rest e5.0 tail in
    ap (found_row (reader b r n) (may_open b) ps)
    (others_complete b r n place k start ps rest (room_part k ps r positive).0 e3.0 e1.0 e2.0 behind.1 ts front _ read fits (taken_any start ts e4.0) high nested (count_length place k start ps ts rest e3.0 fits) apart
    (λ l. subst (λ (x : Bool). Follows k x (spell_signs ps ++ rest)) (sym (opened l)) behind.0))
    ∙ signs_read (reader b r n) (may_open b) ps (front ++ listed ts) rest e5.1
