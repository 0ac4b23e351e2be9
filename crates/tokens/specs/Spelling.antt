-- How the tokens of the language are written.
use Rattle.std.specs.Prelude.{ℕ, List, Bool, codes, nat_eq}
use Rattle.std.specs.List.{starts_with}
use Rattle.tokens.specs.declared.symbol.Symbol.{Symbol}
use Rattle.tokens.specs.declared.symbol.Symbol.TheVariants as symbols
use Rattle.tokens.specs.declared.symbol.RefusedSymbol.{RefusedSymbol}
use Rattle.tokens.specs.declared.symbol.RefusedSymbol.TheVariants as refused_symbols
use Rattle.tokens.specs.declared.keyword.Keyword.{Keyword}
use Rattle.tokens.specs.declared.keyword.Keyword.TheVariants as keywords
use Rattle.tokens.specs.declared.keyword.RefusedWord.{RefusedWord}
use Rattle.tokens.specs.declared.keyword.RefusedWord.TheVariants as refused_words
use Rattle.tokens.specs.declared.mark.Mark.{Mark}
use Rattle.tokens.specs.declared.mark.Mark.TheVariants as marks
use Rattle.tokens.specs.declared.reserved.Reserved.{Reserved}
use Rattle.tokens.specs.declared.reserved.Reserved.TheVariants as reserved

-- a symbol of the language
unfoldable pub symbol_text : Symbol → List ℕ
symbol_text symbols.Arrow = codes "->"
symbol_text symbols.LeftArrow = codes "<-"
symbol_text symbols.ExternalChoice = codes "[]"
symbol_text symbols.InternalChoice = codes "|~|"
symbol_text symbols.Interleaving = codes "|||"
symbol_text symbols.Semicolon = codes ";"
symbol_text symbols.Interrupt = codes "/\\"
symbol_text symbols.Hiding = codes "\\"
symbol_text symbols.OpenSharing = codes "[|"
symbol_text symbols.CloseSharing = codes "|]"
symbol_text symbols.OpenBracket = codes "["
symbol_text symbols.DoubleBar = codes "||"
symbol_text symbols.CloseBracket = codes "]"
symbol_text symbols.OpenRenaming = codes "[["
symbol_text symbols.CloseRenaming = codes "]]"
symbol_text symbols.OpenBrace = codes "{"
symbol_text symbols.CloseBrace = codes "}"
symbol_text symbols.OpenEvents = codes "{|"
symbol_text symbols.CloseEvents = codes "|}"
symbol_text symbols.OpenParenthesis = codes "("
symbol_text symbols.CloseParenthesis = codes ")"
symbol_text symbols.Range = codes ".."
symbol_text symbols.Dot = codes "."
symbol_text symbols.Question = codes "?"
symbol_text symbols.Exclamation = codes "!"
symbol_text symbols.Comma = codes ","
symbol_text symbols.Colon = codes ":"
symbol_text symbols.Definition = codes "="
symbol_text symbols.Bar = codes "|"
symbol_text symbols.At = codes "@"
symbol_text symbols.Ampersand = codes "&"
symbol_text symbols.Plus = codes "+"
symbol_text symbols.Minus = codes "-"
symbol_text symbols.Times = codes "*"
symbol_text symbols.Percent = codes "%"
symbol_text symbols.Equal = codes "=="
symbol_text symbols.NotEqual = codes "!="
symbol_text symbols.Less = codes "<"
symbol_text symbols.LessOrEqual = codes "<="
symbol_text symbols.Greater = codes ">"
symbol_text symbols.GreaterOrEqual = codes ">="

-- a token of CSPM that is refused
unfoldable pub refused_symbol_text : RefusedSymbol → List ℕ
refused_symbol_text refused_symbols.Timeout = codes "[>"
refused_symbol_text refused_symbols.Exception = codes "|>"
refused_symbol_text refused_symbols.LinkedParallel = codes "<->"
refused_symbol_text refused_symbols.Slash = codes "/"
refused_symbol_text refused_symbols.Underscore = codes "_"

-- a word that is no name
unfoldable pub keyword_text : Keyword → List ℕ
keyword_text keywords.Channel = codes "channel"
keyword_text keywords.Datatype = codes "datatype"
keyword_text keywords.Stop = codes "STOP"
keyword_text keywords.Skip = codes "SKIP"
keyword_text keywords.Events = codes "Events"
keyword_text keywords.Union = codes "union"
keyword_text keywords.Inter = codes "inter"
keyword_text keywords.Diff = codes "diff"
keyword_text keywords.If = codes "if"
keyword_text keywords.Then = codes "then"
keyword_text keywords.Else = codes "else"
keyword_text keywords.And = codes "and"
keyword_text keywords.Or = codes "or"
keyword_text keywords.Not = codes "not"
keyword_text keywords.True = codes "true"
keyword_text keywords.False = codes "false"

-- a word of CSPM that is refused
unfoldable pub refused_word_text : RefusedWord → List ℕ
refused_word_text refused_words.Let = codes "let"
refused_word_text refused_words.Within = codes "within"
refused_word_text refused_words.Nametype = codes "nametype"
refused_word_text refused_words.Subtype = codes "subtype"
refused_word_text refused_words.Include = codes "include"
refused_word_text refused_words.Transparent = codes "transparent"
refused_word_text refused_words.External = codes "external"
refused_word_text refused_words.Module = codes "module"
refused_word_text refused_words.Print = codes "print"

-- a token that is no word
abbrev pub mark_text : Mark → List ℕ
mark_text (marks.Taken s) = symbol_text s
mark_text (marks.Refused r) = refused_symbol_text r

-- a word that is no name
abbrev pub reserved_text : Reserved → List ℕ
reserved_text (reserved.Kept k) = keyword_text k
reserved_text (reserved.Refused r) = refused_word_text r
reserved_text reserved.Assert = codes "assert"

-- the text begins with this mark
abbrev pub begins : List ℕ → Mark → Bool
begins text m = starts_with nat_eq text (mark_text m)
