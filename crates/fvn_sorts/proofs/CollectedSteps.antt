-- What one declaration more leaves as it is.
use Rattle.std.proofs.Common.{◌≡◌, ◌+◌, ◌<◌, ◌≤◌, max, List, [], ◌∷◌, ◌++◌, ap, ◌⊎◌, inl, inr, arith}
use Rattle.std.specs.List.{All, Contains}
use Rattle.std.proofs.Math.Nat.{le-max_left, le-max_right}
use Rattle.std.proofs.lemmas.Bool.{cases_lt}
use Rattle.std.proofs.lemmas.List.Elements.{All-push, All-weaker, Contains-append_left, Contains-append_right}
use Rattle.fvn_terms.specs.declared.plain.OpId.{OpId}
use Rattle.fvn_base.proofs.Membership.{contains_here}
use Rattle.fvn_signature_draft.specs.declared.collected.Declaration.{Declaration}
use Rattle.fvn_signature_draft.specs.declared.collected.Collected.{Collected}
use Rattle.fvn_signature_draft.specs.Collected.{IsClosed, Names, op_number}

module _ (c : Collected) (closed : IsClosed c) (e : Declaration) (known_or_next : e.op.0 ≤ c.operators) where
  abbrev more : List Declaration
  more = c.declarations ++ e ∷ []

  last : Contains more e
  last = Contains-append_right c.declarations (e ∷ []) e (contains_here e [])

  declared_before_or_now : (f : OpId) → (f.0 < c.operators) ⊎ (c.operators ≤ f.0) → f.0 < max c.operators (e.op.0 + 1) → (g : Declaration) × (Contains more g × (g.op ≡ f))
  declared_before_or_now f (inl l) m = let w = closed.each_declared f l in (w.0, (Contains-append_left c.declarations (e ∷ []) w.0 w.1.0, w.1.1))
  declared_before_or_now f (inr l) m = (e, (last, ap op_number (let same : e.op.0 ≡ f.0 = omega (arith, m) in same)))

  pub one_declaration_more : All (Names c.sorts) e.rank.args → Names c.sorts e.rank.result → IsClosed record { sorts = c.sorts; below = c.below; operators = max c.operators (e.op.0 + 1); declarations = more }
  one_declaration_more args gives = record {
    few = closed.few;
    below = closed.below;
    operators = All-push (λ g. g.op.0 < max c.operators (e.op.0 + 1)) c.declarations e (All-weaker (λ g. g.op.0 < c.operators) (λ g. g.op.0 < max c.operators (e.op.0 + 1)) (λ g l. let m = le-max_left c.operators (e.op.0 + 1) in omega arith) c.declarations closed.operators) (let m = le-max_right c.operators (e.op.0 + 1) in omega arith);
    args = All-push (λ g. All (Names c.sorts) g.rank.args) c.declarations e closed.args args;
    results = All-push (λ g. Names c.sorts g.rank.result) c.declarations e closed.results gives;
    each_declared = λ f l. declared_before_or_now f (cases_lt f.0 c.operators) l;
  }
