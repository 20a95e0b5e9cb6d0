-- What the tests of all rules show of each: where whole left sides overlap, one of two rules is the outer one.
use Rattle.std.proofs.Common.{◌≡◌, ◌⊎◌, ◌≤◌, ◌<◌, ◌+◌, ◌-◌, ℕ, List, [], ◌∷◌, length, drop, get_or, Some, inl, inr, refl, sym, ap, ◌∙◌, subst, arith}
use Rattle.std.specs.Prelude.{Contains, slice_get}
use Rattle.std.proofs.lemmas.Bool.{cases_lt}
use Rattle.std.proofs.lemmas.List.{get_or-drop, length-drop}
use Rattle.std.proofs.lemmas.Option.{slice_get_read}
use Rattle.fvn_base.proofs.Membership.{contains_here}
use Rattle.fvn_terms.specs.declared.plain.OpId.{OpId}
use Rattle.fvn_terms.specs.declared.declarations.Declarations.{Declarations}
use Rattle.fvn_terms.specs.Theory.{Equations}
use Rattle.fvn_forms.specs.Flat.{FlatTerm, fvar, fapp}
use Rattle.fvn_forms.specs.Good.{IsGood}
use Rattle.fvn_signature.specs.Queries.{IsCompleted}
use Rattle.fvn_flat.specs.Forms.{head_of}
use Rattle.fvn_rewrite_laws.specs.Laws.{RuleLaws}
use Rattle.fvn_rewrite_rules.specs.declared.rule.Rule.{Rule}
use Rattle.fvn_rewrite.specs.Usable.{Rewriting, AreUsable, equations_by}
use Rattle.fvn_places.specs.Paths.{paths, paths_from}
use Rattle.fvn_critical_pairs.specs.Overlaps.{whole_overlap, JoinsWhole, JoinEitherWay, IsJoined}
use Rattle.fvn_critical_pairs.proofs.Heads.{renamed_head}
use Rattle.fvn_critical_pairs.proofs.GivenRules.{left_fits}
use Rattle.fvn_critical.specs.inner.Testing.{Each, inner_rules, IsJoinedAlong, AreJoinedBySome}
use Rattle.fvn_critical.proofs.Forms.{used_by}

-- the path to the whole form
root_listed : (t : FlatTerm) (f : OpId) → head_of t ≡ Some f → Contains (paths t) []
root_listed (fvar x) f e = cc
root_listed (fapp g joined ts) f e = contains_here [] (paths_from 0 ts)

-- all chosen rules are inner ones elsewhere
within_all : (chosen later : List Rule) (x : Rule) (path : List ℕ) → (path ≡ [] → ⊥) → Contains chosen x → Contains (inner_rules chosen later path) x
within_all chosen later x [] n c = absurd (n refl)
within_all chosen later x (i ∷ path) n c = c

-- an element that stands at a place or behind it
behind : {A : Type 0} (l : List A) (i : ℕ) (x : A) (c : Contains l x) → i ≤ c.0 → Contains (drop i l) x
behind l i x c h =
    let n : i + (c.0 - i) ≡ c.0 = omega (arith, h) in
    let within = c.1 in
    let few = length-drop i l in
    (c.0 - i, omega (arith, h, within, few), get_or-drop i l (c.0 - i) x ∙ ap (λ k. get_or l k x) n ∙ c.2)

read_at : {A : Type 0} (l : List A) (x : A) (c : Contains l x) → slice_get l c.0 ≡ Some x
read_at l x c = slice_get_read l (length l) c.0 x refl c.1 (sym c.2)

module _ (r : Rewriting) (good : IsGood r.signature) (completed : IsCompleted r.signature) (usable : AreUsable r.signature r.rules) (rules : RuleLaws r.signature (equations_by r)) (some : AreJoinedBySome r) where
  abbrev d : Declarations
  d = r.signature

  abbrev equations : Equations
  equations = equations_by r

  along : (a : Rule) (c : Contains some.chosen a) → IsJoinedAlong r some.chosen (drop c.0 some.chosen) a
  along a c = some.joined c.0 a c.1 (read_at some.chosen a c)

  -- the first of two rules is the outer one
  first_outer : (a b : Rule) (c : Contains some.chosen a) → Contains (drop c.0 some.chosen) b → Contains some.chosen b → (f : OpId) → head_of a.left ≡ Some f → head_of b.left ≡ Some f → JoinsWhole d equations a b
  first_outer a b c later i f e g =
      let k = along a c in
      let used = used_by r good completed usable in
      let h : head_of k.new.left ≡ Some f = ap head_of k.renewed.left ∙ renamed_head d k.renewed.by f a.left (left_fits d r.rules used rules a (some.enough.given a c)).flat e in
      let listed = root_listed k.new.left f h in record {
        next = k.next;
        new = k.new;
        renewed = k.renewed;
        joins = k.along [] listed (whole_overlap k.new b) refl refl record { listed = listed; leads = refl; operator = f; heads = h; given = some.enough.given b i; heads_inner = g } later;
      }

  either_way : (a b : Rule) → Contains some.chosen a → Contains some.chosen b → (f : OpId) → head_of a.left ≡ Some f → head_of b.left ≡ Some f → JoinEitherWay d equations a b
  either_way a b c i f e g = go (cases_lt i.0 c.0)
    where
      go : (i.0 < c.0) ⊎ (c.0 ≤ i.0) → JoinEitherWay d equations a b
      go (inl l) = inr (first_outer b a i (behind some.chosen i.0 a c (omega (arith, l))) c f g e)
      go (inr h) = inl (first_outer a b c (behind some.chosen c.0 b i h) i f e g)

  pub all_joined : Each (IsJoined d equations r.rules some.chosen) some.chosen
  all_joined a c =
      let k = along a c in record {
        next = k.next;
        new = k.new;
        renewed = k.renewed;
        joins = λ o same over i n.
            k.along o.path (subst (λ (z : Rule). Contains (paths z.left) o.path) same over.listed) o same refl over (within_all some.chosen (drop c.0 some.chosen) o.inner o.path n i);
        whole = λ b i f e g. either_way a b c i f e g;
      }
