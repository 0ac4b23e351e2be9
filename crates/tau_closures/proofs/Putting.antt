-- Lists that grow by what they don't have.
use Rattle.std.proofs.Common.{inl, inr, List, [], ◌++◌, sym, ap, ◌∙◌, subst}
use Rattle.std.proofs.lemmas.List.{append_assoc, append-nil}
use Rattle.term.specs.Traces.{In}
use Rattle.term.specs.Proc.{Proc}
use Rattle.targets.proofs.Members.{append-In, In-append_l, In-append_r}
use Rattle.tau_closures.specs.Closing.{HasPut}

pub put-none : (old : List Proc) → HasPut [] old old
put-none old =
    record {
      more = ([], sym (append-nil old));
      once = λ d. d;
      only = λ Q i. inl i;
      all = λ Q i. elim i [ ];
    }

pub put-then : (ps qs a b c : List Proc) → HasPut ps a b → HasPut qs b c → HasPut (ps ++ qs) a c
put-then ps qs a b c f g =
    record {
      more = (f.more.0 ++ g.more.0, g.more.1 ∙ ap (λ l. l ++ g.more.0) f.more.1 ∙ append_assoc a f.more.0 g.more.0);
      once = λ d. g.once (f.once d);
      only = λ Q i. elim (g.only Q i) [
        | inl j ↦ elim (f.only Q j) [ inl k ↦ inl k | inr k ↦ inr (In-append_l k qs) ]
        | inr j ↦ inr (In-append_r ps j)
      ];
      all = λ Q i. elim (append-In ps qs Q i) [
        | inl j ↦ kept Q (f.all Q j)
        | inr j ↦ g.all Q j
      ];
    }
  where
    kept : (Q : Proc) → In Q b → In Q c
    kept Q i = subst (λ l. In Q l) (sym g.more.1) (In-append_l i g.more.0)
