-- What an associative operator without an identity heads has a column of its sum system.
use Rattle.std.proofs.Common.{◌≡◌, ℕ, List, [], ◌∷◌, length, refl, sym, ap, ◌∙◌, subst, arith}
use Rattle.fvn_terms.specs.declared.plain.OpId.{OpId}
use Rattle.fvn_terms.specs.declared.declarations.Declarations.{Declarations}
use Rattle.fvn_terms.specs.Signature.{axioms}
use Rattle.fvn_terms.specs.Equality.{IsAssociative, identity}
use Rattle.fvn_flat.specs.Partitions.{HasNoIdentity}
use Rattle.fvn_combine_nodes.specs.Table.{NodeTable, IsOver}
use Rattle.fvn_combine_nodes.proofs.Heading.{identity_of}
use Rattle.fvn_combine_systems.specs.NodeSystems.{IsIdentityClass, IsNodeColumn}
use Rattle.fvn_combine_leaves.specs.Leaves.{IsSolid}
use Rattle.fvn_combine_choices.specs.Tables.{HasSums}

-- two arguments
pub record IsPair (ks : List ℕ) : Type 0 where
  pub left : ℕ
  pub right : ℕ
  pub are : ks ≡ left ∷ right ∷ []

pub pair_of : (ks : List ℕ) → length ks ≡ 2 → IsPair ks
pair_of [] n = absurd (omega (arith, n))
pair_of (a ∷ []) n = absurd (omega (arith, n))
pair_of (a ∷ b ∷ []) n = record { left = a; right = b; are = refl }
pair_of (a ∷ b ∷ x ∷ ks) n = absurd (omega (arith, n))

module _ {d : Declarations} {t : NodeTable} (has : HasSums d t) (class : ℕ → ℕ) (f : OpId) (k : ℕ) where
  -- an operator without an identity has no class of it
  pub no_identity_class : HasNoIdentity (axioms d f) → IsIdentityClass t class f k → ⊥
  no_identity_class bare (j, p, l, e, same) = let u = has.units p (j, l, e) in identity_of (axioms d f) u.0 bare (ap (λ o. identity (axioms d o)) (sym same.0) ∙ u.1)

  pub solid_column : IsAssociative (axioms d f) → IsSolid d t class f k → IsNodeColumn t class f k
  solid_column assoc h =
      let two = has.pairs h.member f h.arguments h.over assoc in
      let p = pair_of h.arguments two.0 in
      record {
        sum = h.member;
        left = p.left;
        right = p.right;
        listed = two.1;
        over = subst (IsOver t.nodes h.member f) p.are h.over;
        among = (0, omega arith, h.of);
        no_identity = no_identity_class h.no_identity;
      }
