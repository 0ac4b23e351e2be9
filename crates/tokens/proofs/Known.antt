-- Each mark and each reserved word is known by its text: a line each.
use Rattle.std.proofs.Common.{◌≡◌, ℕ, List, Bool, Some, refl}
use Rattle.std.specs.Prelude.{find, nat_eq}
use Rattle.std.specs.Cmp.Lexicographic.{pointwise}
use Rattle.tokens.specs.declared.symbol.Symbol.TheVariants as symbols
use Rattle.tokens.specs.declared.symbol.RefusedSymbol.TheVariants as refused_symbols
use Rattle.tokens.specs.declared.keyword.Keyword.TheVariants as keywords
use Rattle.tokens.specs.declared.keyword.RefusedWord.TheVariants as refused_words
use Rattle.tokens.specs.declared.mark.Mark.{Mark}
use Rattle.tokens.specs.declared.mark.Mark.TheVariants as marks
use Rattle.tokens.specs.declared.mark.TheConstants.{MARKS}
use Rattle.tokens.specs.declared.reserved.Reserved.{Reserved}
use Rattle.tokens.specs.declared.reserved.Reserved.TheVariants as reserved
use Rattle.tokens.specs.Scanning.{reserved_of}
use Rattle.tokens.specs.Spelling.{symbol_text, refused_symbol_text, keyword_text, refused_word_text, mark_text, reserved_text}

abbrev pub is_mark_as : List ℕ → Mark → Bool
is_mark_as w m = pointwise nat_eq (mark_text m) w

pub known_mark : (m : Mark) → find (is_mark_as (mark_text m)) MARKS ≡ Some m
unfolding symbol_text refused_symbol_text
known_mark (marks.Taken symbols.InternalChoice) = refl
known_mark (marks.Taken s) = refl
known_mark (marks.Refused refused_symbols.LinkedParallel) = refl
known_mark (marks.Refused s) = refl

pub known_word : (r : Reserved) → reserved_of (reserved_text r) ≡ Some r
unfolding keyword_text refused_word_text
known_word (reserved.Kept keywords.Channel) = refl
known_word (reserved.Kept k) = refl
known_word (reserved.Refused refused_words.Let) = refl
known_word (reserved.Refused w) = refl
known_word reserved.Assert = refl
