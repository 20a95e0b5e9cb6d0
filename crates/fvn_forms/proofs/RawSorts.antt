-- The sort that a term gets as it is written, and what sorts it gets.
use Rattle.std.proofs.Common.{◌≡◌, List, [], ◌∷◌, map, refl, ap, ◌∙◌, subst}
use Rattle.std.specs.List.{AllZip}
use Rattle.fvn_terms.specs.declared.plain.Var.{Var}
use Rattle.fvn_terms.specs.declared.plain.OpId.{OpId}
use Rattle.fvn_terms.specs.declared.plain.SortId.{SortId}
use Rattle.fvn_terms.specs.declared.declarations.Declarations.{Declarations}
use Rattle.fvn_terms.specs.Term.{Term, Terms, var, app, none, more}
use Rattle.fvn_terms.specs.Signature.{kind, AtOrBelow, same, HasKind, HaveKinds}
use Rattle.fvn_terms.specs.Sorts.{HasRank, Gets, GetAtMost}
use Rattle.fvn_forms.specs.Ranks.{result}
use Rattle.fvn_forms.specs.Good.{TakesKinds, IsGood}
use Rattle.fvn_forms.specs.LeastSort.{KeepsKindsOfVariables}
use Rattle.fvn_forms.proofs.SortOrder.{AtOrBelow-trans}
use Rattle.fvn_forms.proofs.RanksAgree.{ranks_of-sound, ranks_of-complete, rank_of}
use Rattle.fvn_forms.proofs.Results.{result-is, result-kind}

-- each variable has its own sort
abbrev pub own_sort : Var → SortId
own_sort x = x.sort

module _ (d : Declarations) where
  pub own_sort_keeps : KeepsKindsOfVariables d own_sort
  own_sort_keeps x h = refl

  -- the least sort by ranks alone
  abbrev mutual
    pub raw_sort : (Var → SortId) → Term → SortId
    raw_sort env (var x) = env x
    raw_sort env (app f ts) = result d f (raw_sorts env ts)

    pub raw_sorts : (Var → SortId) → Terms → List SortId
    raw_sorts env none = []
    raw_sorts env (more t ts) = raw_sort env t ∷ raw_sorts env ts

  module _ (good : IsGood d) where
    module _ (env : Var → SortId) (keeps : KeepsKindsOfVariables d env) where
      mutual
        pub raw_sort-kind : (t : Term) (k : SortId) → HasKind d t k → kind d (raw_sort env t) ≡ k
        raw_sort-kind (var x) k h = keeps x h.0 ∙ h.1
        raw_sort-kind (app f ts) k h =
            let takes : TakesKinds d f (raw_sorts env ts) = record { rank = h.rank; listed = h.listed; kinds = raw_sorts-kinds ts _ h.args } in
            result-kind d good f (raw_sorts env ts) h.rank takes h.listed ∙ h.result

        pub raw_sorts-kinds : (ts : Terms) (ks : List SortId) → HaveKinds d ts ks → map (kind d) (raw_sorts env ts) ≡ ks
        raw_sorts-kinds none [] h = refl
        raw_sorts-kinds none (k ∷ ks) h = absurd h
        raw_sorts-kinds (more t ts) [] h = absurd h
        raw_sorts-kinds (more t ts) (k ∷ ks) h = ap (λ q. q ∷ map (kind d) (raw_sorts env ts)) (raw_sort-kind t k h.0) ∙ ap (λ qs. k ∷ qs) (raw_sorts-kinds ts ks h.1)

      pub raw_takes : (f : OpId) (ts : Terms) (k : SortId) → HasKind d (app f ts) k → TakesKinds d f (raw_sorts env ts)
      raw_takes f ts k h = record { rank = h.rank; listed = h.listed; kinds = raw_sorts-kinds ts _ h.args }

    get_at_most : (ts : Terms) (ss : List SortId) → GetAtMost d ts (raw_sorts own_sort ts) → AllZip (AtOrBelow d) (raw_sorts own_sort ts) ss → GetAtMost d ts ss
    get_at_most none [] h b = tt
    get_at_most none (s ∷ ss) h b = absurd b
    get_at_most (more t ts) [] h b = absurd b
    get_at_most (more t ts) (s ∷ ss) h b = (record { sort = (h.0).sort; gets = (h.0).gets; below = AtOrBelow-trans d (h.0).below b.0 }, get_at_most ts ss h.1 b.1)

    -- a term gets its raw sort
    mutual
      pub gets_raw : (t : Term) (k : SortId) → HasKind d t k → Gets d t (raw_sort own_sort t)
      gets_raw (var x) k h = refl
      gets_raw (app f ts) k h =
          let is = result-is d good f (raw_sorts own_sort ts) (raw_takes own_sort own_sort_keeps f ts k h) in
          record {
            sorts = is.serves.rank.args;
            rank = subst (HasRank d f is.serves.rank.args) is.serves.gives (ranks_of-sound d f is.serves.rank is.serves.listed);
            args = get_at_most ts is.serves.rank.args (get_raw ts _ h.args) is.serves.fits;
          }

      get_raw : (ts : Terms) (ks : List SortId) → HaveKinds d ts ks → GetAtMost d ts (raw_sorts own_sort ts)
      get_raw none ks h = tt
      get_raw (more t ts) [] h = absurd h
      get_raw (more t ts) (k ∷ ks) h = (record { sort = raw_sort own_sort t; gets = gets_raw t k h.0; below = same }, get_raw ts ks h.1)

    -- and no sort that is not at or above it
    mutual
      pub gets_least : (t : Term) (k s : SortId) → HasKind d t k → Gets d t s → AtOrBelow d (raw_sort own_sort t) s
      gets_least (var x) k s h g = subst (AtOrBelow d x.sort) g same
      gets_least (app f ts) k s h g =
          let is = result-is d good f (raw_sorts own_sort ts) (raw_takes own_sort own_sort_keeps f ts k h) in
          is.least s record { rank = rank_of g.sorts s; listed = ranks_of-complete d f g.rank; fits = get_least ts _ g.sorts h.args g.args; gives = refl }

      get_least : (ts : Terms) (ks ss : List SortId) → HaveKinds d ts ks → GetAtMost d ts ss → AllZip (AtOrBelow d) (raw_sorts own_sort ts) ss
      get_least none ks [] h g = tt
      get_least none ks (s ∷ ss) h g = absurd g
      get_least (more t ts) [] ss h g = absurd h
      get_least (more t ts) (k ∷ ks) [] h g = absurd g
      get_least (more t ts) (k ∷ ks) (s ∷ ss) h g = (AtOrBelow-trans d (gets_least t k (g.0).sort h.0 (g.0).gets) (g.0).below, get_least ts ks ss h.1 g.1)
