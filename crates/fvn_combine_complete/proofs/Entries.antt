-- The members of a sum, with their pieces.
use Rattle.std.proofs.Common.{◌≡◌, ℕ, zero, suc, ◌+◌, ◌<◌, List, [], ◌∷◌, ◌++◌, length, map, get_or, replicate, refl, ap, ◌∙◌, arith, Contains}
use Rattle.std.specs.List.{AllByRecursion}
use Rattle.fvn_base.proofs.Membership.{contains_here, contains_later, contains_none}
use Rattle.fvn_terms.specs.declared.plain.Var.{Var}
use Rattle.fvn_forms.specs.Flat.{FlatTerm, fvar}
use Rattle.fvn_forms.specs.InOrder.{count}
use Rattle.fvn_forms.proofs.InOrder.{count_append}
use Rattle.fvn_flat.specs.SolvedLists.{Part, component, members}
use Rattle.fvn_combine_complete.specs.LaidOut.{copies, laid_for}
use Rattle.fvn_combine_complete.proofs.Spread.{variables_in, spread}

-- parts with the pieces that stand for them
abbrev pub paired : List Part → List (List FlatTerm) → List (Part × List FlatTerm)
paired [] zs = []
paired (p ∷ parts) [] = []
paired (p ∷ parts) (z ∷ zs) = (p, z) ∷ paired parts zs

-- an entry so many times before others
abbrev often : ℕ → Var × List FlatTerm → List (Var × List FlatTerm) → List (Var × List FlatTerm)
often zero e es = es
often (suc n) e es = e ∷ often n e es

-- the members of the sum of class k, each with its pieces
abbrev pub entries : List ℕ → ℕ → List Part → List (List FlatTerm) → List (Var × List FlatTerm)
entries columns k [] zs = []
entries columns k (p ∷ parts) [] = []
entries columns k (p ∷ parts) (z ∷ zs) = often (component columns p.solution k) (p.variable, z) (entries columns k parts zs)

variables_often : (n : ℕ) (e : Var × List FlatTerm) (es : List (Var × List FlatTerm)) → replicate n (fvar e.0) ++ variables_in es ≡ variables_in (often n e es)
variables_often zero e es = refl
variables_often (suc n) e es = ap (λ l. fvar e.0 ∷ l) (variables_often n e es)

pub members_are : (columns : List ℕ) (k : ℕ) (parts : List Part) (zs : List (List FlatTerm)) → length zs ≡ length parts → members columns parts k ≡ variables_in (entries columns k parts zs)
members_are columns k [] zs e = refl
members_are columns k (p ∷ parts) [] e = absurd (omega (arith, e))
members_are columns k (p ∷ parts) (z ∷ zs) e =
    ap (λ l. replicate (component columns p.solution k) (fvar p.variable) ++ l) (members_are columns k parts zs (omega (arith, e)))
    ∙ variables_often (component columns p.solution k) (p.variable, z) (entries columns k parts zs)

spread_often : (q : FlatTerm) (n : ℕ) (e : Var × List FlatTerm) (es : List (Var × List FlatTerm)) → count q (spread (often n e es)) ≡ count q (copies n e.1) + count q (spread es)
spread_often q zero e es = omega arith
spread_often q (suc n) e es =
    let a = count_append q e.1 (spread (often n e es)) in
    let b = count_append q e.1 (copies n e.1) in
    let r = spread_often q n e es in
    omega (arith, a, b, r)

pub spread_are : (q : FlatTerm) (columns : List ℕ) (k : ℕ) (parts : List Part) (zs : List (List FlatTerm)) → length zs ≡ length parts → count q (spread (entries columns k parts zs)) ≡ count q (laid_for columns k (map (λ p. p.solution) parts) zs)
spread_are q columns k [] zs e = refl
spread_are q columns k (p ∷ parts) [] e = absurd (omega (arith, e))
spread_are q columns k (p ∷ parts) (z ∷ zs) e =
    let n = component columns p.solution k in
    let a = spread_often q n (p.variable, z) (entries columns k parts zs) in
    let b = count_append q (copies n z) (laid_for columns k (map (λ p. p.solution) parts) zs) in
    let r = spread_are q columns k parts zs (omega (arith, e)) in
    omega (arith, a, b, r)

-- what holds of each part with its pieces holds of the entries
each_often : (P : Var × List FlatTerm → Type 0) (n : ℕ) (e : Var × List FlatTerm) (es : List (Var × List FlatTerm)) → (0 < n → P e) → AllByRecursion P es → AllByRecursion P (often n e es)
each_often P zero e es h rest = rest
each_often P (suc n) e es h rest = (h (omega arith), each_often P n e es (λ l. h (omega arith)) rest)

pub each_entry : (P : Var × List FlatTerm → Type 0) (columns : List ℕ) (k : ℕ) (parts : List Part) (zs : List (List FlatTerm)) → ((r : Part × List FlatTerm) → Contains (paired parts zs) r → 0 < component columns r.0.solution k → P (r.0.variable, r.1)) → AllByRecursion P (entries columns k parts zs)
each_entry P columns k [] zs h = tt
each_entry P columns k (p ∷ parts) [] h = tt
each_entry P columns k (p ∷ parts) (z ∷ zs) h =
    each_often P (component columns p.solution k) (p.variable, z) (entries columns k parts zs) (h (p, z) (contains_here (p, z) (paired parts zs)))
    (each_entry P columns k parts zs (λ r c. h r (contains_later (p, z) (paired parts zs) r c)))

-- the place of a part with its pieces
pub record PairedAt (parts : List Part) (zs : List (List FlatTerm)) (r : Part × List FlatTerm) (i : ℕ) : Type 0 where
  pub within : i < length parts
  pub part : (p : Part) → get_or parts i p ≡ r.0
  pub piece : get_or zs i [] ≡ r.1

pub paired_at : (parts : List Part) (zs : List (List FlatTerm)) (r : Part × List FlatTerm) → Contains (paired parts zs) r → (i : ℕ) × PairedAt parts zs r i
paired_at [] zs r c = absurd (contains_none r c)
paired_at (p ∷ parts) [] r c = absurd (contains_none r c)
paired_at (p ∷ parts) (z ∷ zs) r (zero, l, e) = (0, record { within = omega arith; part = λ o. ap (λ m. m.0) e; piece = ap (λ m. m.1) e })
paired_at (p ∷ parts) (z ∷ zs) r (suc i, l, e) =
    let h = paired_at parts zs r (i, omega (arith, l), e) in
    (suc h.0, record { within = (let m = h.1.within in omega (arith, m)); part = h.1.part; piece = h.1.piece })

-- the pieces at a place, with the part there
pub paired_from : (parts : List Part) (zs : List (List FlatTerm)) → length zs ≡ length parts → (i : ℕ) (p : Part) → i < length parts → Contains (paired parts zs) (get_or parts i p, get_or zs i [])
paired_from [] zs e i p l = absurd (omega (arith, l))
paired_from (o ∷ parts) [] e i p l = absurd (omega (arith, e))
paired_from (o ∷ parts) (z ∷ zs) e zero p l = contains_here (o, z) (paired parts zs)
paired_from (o ∷ parts) (z ∷ zs) e (suc i) p l = contains_later (o, z) (paired parts zs) _ (paired_from parts zs (omega (arith, e)) i p (omega (arith, l)))
