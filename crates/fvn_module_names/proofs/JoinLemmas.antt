-- Classes in which more and more pairs are joined.
use Rattle.std.proofs.Common.{◌≡◌, ℕ, ◌<◌, List, [], ◌∷◌, ◌++◌, length, get_or, refl, subst, ◌∙◌, ◌⊎◌, inl, inr, arith}
use Rattle.std.specs.List.{All}
use Rattle.std.proofs.lemmas.List.Elements.{All-nil, All-cons, All-head, All-tail, All-append}
use Rattle.fvn_terms.specs.declared.plain.SortId.{SortId}
use Rattle.fvn_forms.specs.SortOrder.{sort_number}
use Rattle.fvn_module_names.specs.inner.Classes.{AreAlike, IsJoin}
use Rattle.fvn_module_names.specs.inner.Joining.{AreLinked, AreSound, IsJoinedBy}
use Rattle.fvn_module_names.proofs.Links.{linked-sym, linked-trans}

abbrev Within : ℕ → SortId × SortId → Type 0
Within n p = (p.0.0 < n) × (p.1.0 < n)

abbrev Alike : List ℕ → SortId × SortId → Type 0
Alike labels p = AreAlike labels p.0.0 p.1.0

abbrev Linked : List (SortId × SortId) → SortId × SortId → Type 0
Linked all p = AreLinked all p.0 p.1

pub joined-none : (labels : List ℕ) → IsJoinedBy labels labels []
joined-none labels = record {
  as_long = refl;
  in_range = All-nil (Within (length labels));
  kept = λ i j l m e. e;
  joined = All-nil (Alike labels);
  sound = λ all h _. h;
}

pub joined-one : (old new : List ℕ) (a b : ℕ) → a < length old → b < length old → IsJoin old new a b → IsJoinedBy old new ((sort_number a, sort_number b) ∷ [])
joined-one old new a b la lb h = record {
  as_long = h.as_long;
  in_range = All-cons (Within (length old)) (sort_number a, sort_number b) [] (la, lb) (All-nil (Within (length old)));
  kept = h.kept;
  joined = All-cons (Alike new) (sort_number a, sort_number b) [] h.joined (All-nil (Alike new));
  sound = sound;
} where
  sound : (all : List (SortId × SortId)) → AreSound all old → All (Linked all) ((sort_number a, sort_number b) ∷ []) → AreSound all new
  sound all was links i j li lj e = go (h.only i j within_i within_j e) where
    within_i : i < length old
    within_i = let k = h.as_long in omega arith

    within_j : j < length old
    within_j = let k = h.as_long in omega arith

    link : AreLinked all (sort_number a) (sort_number b)
    link = All-head (Linked all) (sort_number a, sort_number b) [] links

    go : AreAlike old i j ⊎ ((AreAlike old i a × AreAlike old j b) ⊎ (AreAlike old i b × AreAlike old j a)) → AreLinked all (sort_number i) (sort_number j)
    go (inl k) = was i j within_i within_j k
    go (inr (inl k)) = linked-trans all (sort_number i) (sort_number a) (sort_number j) (was i a within_i la k.0)
        (linked-trans all (sort_number a) (sort_number b) (sort_number j) link (linked-sym all (sort_number j) (sort_number b) (was j b within_j lb k.1)))
    go (inr (inr k)) = linked-trans all (sort_number i) (sort_number b) (sort_number j) (was i b within_i lb k.0)
        (linked-trans all (sort_number b) (sort_number a) (sort_number j) (linked-sym all (sort_number a) (sort_number b) link) (linked-sym all (sort_number j) (sort_number a) (was j a within_j la k.1)))

module _ (old mid new : List ℕ) (ps qs : List (SortId × SortId)) (g : IsJoinedBy old mid ps) (h : IsJoinedBy mid new qs) where
  long : length mid ≡ length old
  long = g.as_long

  kept : (i j : ℕ) → i < length old → j < length old → AreAlike old i j → AreAlike new i j
  kept i j li lj e = let k = long in h.kept i j (omega arith) (omega arith) (g.kept i j li lj e)

  later : All (Within (length old)) qs
  later = subst (λ n. All (Within n) qs) long h.in_range

  first : All (Alike new) ps
  first k d l = let r = g.in_range k d l in let e = long in h.kept (get_or ps k d).0.0 (get_or ps k d).1.0 (omega arith) (omega arith) (g.joined k d l)

  pub joined-both : IsJoinedBy old new (ps ++ qs)
  joined-both = record {
    as_long = h.as_long ∙ long;
    in_range = All-append (Within (length old)) ps qs g.in_range later;
    kept = kept;
    joined = All-append (Alike new) ps qs first h.joined;
    sound = λ all was links. h.sound all (g.sound all was (parts all links).0) (parts all links).1;
  } where
    parts : (all : List (SortId × SortId)) → All (Linked all) (ps ++ qs) → All (Linked all) ps × All (Linked all) qs
    parts all = All-parts ps where
      All-parts : (xs : List (SortId × SortId)) → All (Linked all) (xs ++ qs) → All (Linked all) xs × All (Linked all) qs
      All-parts [] a = (All-nil (Linked all), a)
      All-parts (x ∷ xs) a = let r = All-parts xs (All-tail (Linked all) x (xs ++ qs) a) in
          (All-cons (Linked all) x xs (All-head (Linked all) x (xs ++ qs) a) r.0, r.1)

-- the same classes join other pairs too, which link as much
pub joined-other : (old new : List ℕ) (ps qs : List (SortId × SortId)) → IsJoinedBy old new ps → All (Within (length old)) qs → All (Alike new) qs →
    ((all : List (SortId × SortId)) → All (Linked all) qs → All (Linked all) ps) → IsJoinedBy old new qs
joined-other old new ps qs h in_range alike links = record {
  as_long = h.as_long;
  in_range = in_range;
  kept = h.kept;
  joined = alike;
  sound = λ all was these. h.sound all was (links all these);
}
