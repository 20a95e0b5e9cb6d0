-- What is left of pairs that were taken apart.
use Rattle.std.specs.Prelude.{◌≡◌, ◌⊎◌, ◌↔◌, ◌≤◌, ℕ, ◌+◌, Bool, true, false, List, [], Some}
use Rattle.std.specs.List.{AllZip}
use Rattle.fvn_terms.specs.declared.plain.Var.{Var}
use Rattle.fvn_terms.specs.declared.declarations.Declarations.{Declarations}
use Rattle.fvn_forms.specs.Flat.{FlatTerm}
use Rattle.fvn_flat.specs.Bindings.{Bindings, bound, value}
use Rattle.fvn_match.specs.inner.Summands.{references}
use Rattle.fvn_match.specs.inner.Candidates.{Values, IsCandidate, Agrees}
use Rattle.fvn_match.specs.inner.Goals.{AllMake, IsPair, with_bindings, weight_of}
use Rattle.fvn_match.specs.inner.Searching.{crossed}
use Rattle.fvn_match.specs.declared.apart.Apart.{Apart}

-- nothing was taken apart
pub record IsUntouched (a : Apart) : Type 0 where
  pub values : a.values.items ≡ []
  pub patterns : a.patterns.items ≡ []
  pub targets : a.targets.items ≡ []

-- x is bound to another form
abbrev pub HasOther : Bindings → Var → FlatTerm → Type 0
HasOther b x t = (v : FlatTerm) × (bound b x ≡ Some v) × (v ≡ t → ⊥)

module _ (d : Declarations) (b : Bindings) where
  -- no candidate with the values that were bound makes all forms of the patterns
  abbrev pub NeverMakeAll : List FlatTerm → List FlatTerm → Type 0
  NeverMakeAll ps ts = (c : Values) → IsCandidate d c → Agrees b c → AllMake d ps ts c → ⊥

  -- just where the patterns make the targets ts in either order they make us, which are of their kinds
  pub record IsOnlyOrder (ps ts us : List FlatTerm) : Type 0 where
    pub pairs : AllZip (IsPair d) ps us
    pub asks :
        (c : Values) → IsCandidate d c → Agrees b c →
        (AllMake d ps ts c ⊎ AllMake d ps (crossed ts) c) ↔ AllMake d ps us c

  -- all values: those from before, and those that were found
  abbrev pub values_with : Apart → Bindings
  values_with a = with_bindings b a.values.items

  -- the values are of their variables' sorts, and patterns and targets of one kind
  pub record ApartFits (a : Apart) : Type 0 where
    pub values : IsCandidate d (value (values_with a))
    pub pairs : AllZip (IsPair d) (references a.patterns.items) (references a.targets.items)

  -- what is asked of c: the values, and the patterns
  abbrev pub ApartAsks : Apart → Values → Type 0
  ApartAsks a c =
      Agrees (values_with a) c × AllMake d (references a.patterns.items) (references a.targets.items) c

  -- P was taken apart: together with what was asked it asks what is asked now, of patterns that weigh at most w more
  pub record IsTakenApart (before after : Apart) (P : Values → Type 0) (w : ℕ) : Type 0 where
    pub fits : ApartFits after
    pub asks : (c : Values) → IsCandidate d c → (P c × ApartAsks before c) ↔ ApartAsks after c
    pub lighter :
        weight_of (references after.patterns.items) ≤ weight_of (references before.patterns.items) + w

  -- P was taken apart, or no candidate does it
  abbrev pub TakesApart : Apart → Apart → (Values → Type 0) → ℕ → Bool → Type 0
  TakesApart before after P w true = IsTakenApart before after P w
  TakesApart before after P w false =
      (c : Values) → IsCandidate d c → P c → ApartAsks before c → ⊥
