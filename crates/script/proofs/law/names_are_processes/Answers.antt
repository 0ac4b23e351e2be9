use Rattle.std.proofs.Common.{[], ◌∷◌, ap, ap₂, sym, subst, ◌∙◌}
use Rattle.tokens.specs.Lexeme.{Name}
use Rattle.syntax.specs.Grammar.{Syntax}
use Rattle.syntax.proofs.Texts.{has_phrase, name_is_phrase}
use Rattle.denotation.specs.Denotes.{Denotes, Root, root_of}
use Rattle.denotation.proofs.Roots.{name_root}
use Rattle.read_back.proofs.Trees.{named as name_tree}
use Rattle.script.proofs.law.names_are_processes.Goals as goal

pub returns-clause-found : goal.returns-clause-found
returns-clause-found c = λ text root name script spec h toks r.
    let phrase = c.one_phrase.ensures root r.phrase (name_tree name) r.written (has_phrase root (Name name ∷ []) (name_tree name) r.written.line toks (name_is_phrase name)) in
    let both = ap₂ (λ (t : Syntax) (u : Root). (t, u)) (c.one_tree.ensures.text text r.tree script r.reads h) (ap root_of phrase ∙ name_root name) in
    subst (λ (x : Syntax × Root). Denotes x.0 x.1 spec) both r.denotes

pub returns-clause-only : goal.returns-clause-only
returns-clause-only c = λ text root name script spec h line toks d.
    record { tree = script; reads = h; phrase = name_tree name; written = has_phrase root (Name name ∷ []) (name_tree name) line toks (name_is_phrase name); denotes = subst (λ (x : Root). Denotes script x spec) (sym (name_root name)) d }
