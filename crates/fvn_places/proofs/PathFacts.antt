-- A form is replaced at one place exactly where some path leads there.
use Rattle.std.proofs.Common.{◌≡◌, ℕ, zero, suc, ◌+◌, ◌<◌, ◌≤◌, List, [], ◌∷◌, ◌++◌, map, length, take, drop, get_or, None, Some, refl, sym, ap, ◌∙◌, subst, arith}
use Rattle.std.specs.Prelude.{◌↔◌, Contains, slice_get}
use Rattle.std.proofs.lemmas.List.Elements.{Contains-append_left, Contains-append_right}
use Rattle.std.proofs.lemmas.List.{append-nil, append_assoc, map-append, take_more, take_all, drop_more, drop_all, length-take}
use Rattle.std.proofs.lemmas.Option.{slice_get_read, slice_get_within}
use Rattle.fvn_base.proofs.Membership.{contains_here, contains_later, contains_map}
use Rattle.fvn_terms.specs.declared.plain.Var.{Var}
use Rattle.fvn_terms.specs.declared.plain.OpId.{OpId}
use Rattle.fvn_forms.specs.Flat.{FlatTerm, FlatTerms, fvar, fapp, fnone, fmore, fpack, funpack}
use Rattle.fvn_forms.proofs.Sums.{fpack-funpack}
use Rattle.fvn_flat.specs.Forms.{head_of, args_of}
use Rattle.fvn_flat.specs.FlatPlaces.{IsReplaced, IsReplacedAmong, here, inside, first, later}
use Rattle.fvn_places.specs.Paths.{LeadsTo, paths, paths_from, paths_after}
use Rattle.fvn_places.specs.Putting.{put_along, put_among}

same_item : {A : Type 0} (a b : A) → Some a ≡ Some b → a ≡ b
same_item a b e = cc

-- a path leads to one form
pub leads_once : (path : List ℕ) (t a b : FlatTerm) → LeadsTo path t a → LeadsTo path t b → a ≡ b
leads_once [] t a b h k = sym h ∙ k
leads_once (i ∷ path) t a b h k =
    let same : h.0 ≡ k.0 = same_item h.0 k.0 (sym h.1 ∙ k.1) in
    leads_once path k.0 a b (subst (λ u. LeadsTo path u a) same h.2) k.2

-- where a path leads anything can be put
among_arguments : (at given u w : FlatTerm) → IsReplaced at given u w → (ts : FlatTerms) (i : ℕ) → slice_get (funpack ts) i ≡ Some u → (us : FlatTerms) × IsReplacedAmong at given ts us
among_arguments at given u w r fnone i e = cc
among_arguments at given u w r (fmore t ts) zero e =
    let same : t ≡ u = same_item t u e in
    (fmore w ts, subst (λ z. IsReplacedAmong at given (fmore z ts) (fmore w ts)) (sym same) (first r))
among_arguments at given u w r (fmore t ts) (suc i) e =
    let rest = among_arguments at given u w r ts i e in
    (fmore t rest.0, later rest.1)

pub replaced_at : (path : List ℕ) (t at given : FlatTerm) → LeadsTo path t at → (w : FlatTerm) × IsReplaced at given t w
replaced_at [] t at given h = (given, subst (λ z. IsReplaced at given z given) (sym h) here)
replaced_at (i ∷ path) (fvar x) at given h = let e = h.1 in cc
replaced_at (i ∷ path) (fapp f joined ts) at given h =
    let r = replaced_at path h.0 at given h.2 in
    let a = among_arguments at given h.0 r.0 r.1 ts i h.1 in
    (fapp f joined a.0, inside a.1)

-- where a path leads, a form is replaced by what is put there
put_among_replaces : (i : ℕ) (path : List ℕ) (ts : FlatTerms) (at given u : FlatTerm) → slice_get (funpack ts) i ≡ Some u → IsReplaced at given u (put_along path u given) → IsReplacedAmong at given ts (put_among i path ts given)
put_among_replaces i path fnone at given u e r = cc
put_among_replaces zero path (fmore t ts) at given u e r =
    let same : u ≡ t = sym (same_item t u e) in
    first (subst (λ z. IsReplaced at given z (put_along path z given)) same r)
put_among_replaces (suc i) path (fmore t ts) at given u e r = later (put_among_replaces i path ts at given u e r)

pub put_replaces : (path : List ℕ) (t at given : FlatTerm) → LeadsTo path t at → IsReplaced at given t (put_along path t given)
put_replaces [] t at given h = subst (λ z. IsReplaced at given z given) (sym h) here
put_replaces (i ∷ path) (fvar x) at given h = let e = h.1 in cc
put_replaces (i ∷ path) (fapp f joined ts) at given h = inside (put_among_replaces i path ts at given h.0 h.1 (put_replaces path h.0 at given h.2))

-- a path of a form, through arguments of which the first has a number, along which v makes them the others
record IsThrough (first_number : ℕ) (u v : FlatTerm) (ts us : FlatTerms) : Type 0 where
  place : ℕ
  number : ℕ
  number_is : number ≡ first_number + place
  member : FlatTerm
  is : slice_get (funpack ts) place ≡ Some member
  path : List ℕ
  leads : LeadsTo path member u
  along : us ≡ put_among place path ts v
  listed : Contains (paths_from first_number ts) (number ∷ path)

itself : (t : FlatTerm) → ((x : Var) → t ≡ fvar x → ⊥) → Contains (paths t) []
itself (fvar x) n = absurd (n x refl)
itself (fapp f joined ts) n = contains_here [] (paths_from 0 ts)

-- some path of the form leads where it is replaced, and along it the replaced form is made
pub record HasPath (u v t w : FlatTerm) : Type 0 where
  pub path : List ℕ
  pub listed : Contains (paths t) path
  pub leads : LeadsTo path t u
  pub along : w ≡ put_along path t v

mutual
  pub path_along : {u v t w : FlatTerm} → ((x : Var) → u ≡ fvar x → ⊥) → IsReplaced u v t w → HasPath u v t w
  path_along {u} n here = record { path = []; listed = itself u n; leads = refl; along = refl }
  path_along {u} {v} n (inside {f} {joined} {ts} r) =
      let p = path_through n 0 r in
      let place : p.number ≡ p.place = let e = p.number_is in omega arith in record {
        path = p.number ∷ p.path;
        listed = contains_later [] (paths_from 0 ts) (p.number ∷ p.path) p.listed;
        leads = (p.member, ap (slice_get (funpack ts)) place ∙ p.is, p.leads);
        along = ap (fapp f joined) (p.along ∙ ap (λ m. put_among m p.path ts v) (sym place));
      }

  path_through : {u v : FlatTerm} {ts us : FlatTerms} → ((x : Var) → u ≡ fvar x → ⊥) → (k : ℕ) → IsReplacedAmong u v ts us → IsThrough k u v ts us
  path_through n k (first {t} {w} {ts} r) =
      let p = path_along n r in record {
        place = 0;
        number = k;
        number_is = omega arith;
        member = t;
        is = refl;
        path = p.path;
        leads = p.leads;
        along = ap (λ x. fmore x ts) p.along;
        listed = Contains-append_left (map (λ path. k ∷ path) (paths t)) (paths_from (k + 1) ts) (k ∷ p.path) (contains_map (λ path. k ∷ path) (paths t) p.path p.listed);
      }
  path_through n k (later {t} {ts} r) =
      let p = path_through n (k + 1) r in
      let e = p.number_is in record {
        place = suc p.place;
        number = p.number;
        number_is = omega arith;
        member = p.member;
        is = p.is;
        path = p.path;
        leads = p.leads;
        along = ap (fmore t) p.along;
        listed = Contains-append_right (map (λ path. k ∷ path) (paths t)) (paths_from (k + 1) ts) (p.number ∷ p.path) p.listed;
      }

-- some path leads where a form is replaced
pub path_to : {u v t w : FlatTerm} → ((x : Var) → u ≡ fvar x → ⊥) → IsReplaced u v t w → (path : List ℕ) × Contains (paths t) path × LeadsTo path t u
path_to n r = let p = path_along n r in (p.path, p.listed, p.leads)

-- the paths through one argument more
pub paths_from-push : (k : ℕ) (l : List FlatTerm) (t : FlatTerm) → paths_from k (fpack (l ++ t ∷ [])) ≡ paths_from k (fpack l) ++ map (λ path. (k + length l) ∷ path) (paths t)
paths_from-push k [] t =
    let e : k ≡ k + 0 = omega arith in
    append-nil (map (λ path. k ∷ path) (paths t)) ∙ ap (λ m. map (λ path. m ∷ path) (paths t)) e
paths_from-push k (u ∷ l) t =
    let e : k + 1 + length l ≡ k + length (u ∷ l) = omega arith in
    ap (λ m. map (λ path. k ∷ path) (paths u) ++ m) (paths_from-push (k + 1) l t ∙ ap (λ m. paths_from (k + 1) (fpack l) ++ map (λ path. m ∷ path) (paths t)) e)
    ∙ sym (append_assoc (map (λ path. k ∷ path) (paths u)) (paths_from (k + 1) (fpack l)) (map (λ path. (k + length (u ∷ l)) ∷ path) (paths t)))

-- the list of paths to a form and below, where the arguments so far are passed
abbrev pub paths_so_far : List ℕ → List FlatTerm → ℕ → List (List ℕ)
paths_so_far before ts i = map (λ path. before ++ path) ([] ∷ paths_from 0 (fpack (take i ts)))

pub paths-begin : (before : List ℕ) (ts : List FlatTerm) (list next : List (List ℕ)) → next ≡ list ++ before ∷ [] → next ≡ list ++ paths_so_far before ts 0
paths-begin before ts list next e = e ∙ ap (λ b. list ++ b ∷ []) (sym (append-nil before))

map_longer : (before : List ℕ) (i : ℕ) (ps : List (List ℕ)) → map (λ path. before ++ path) (map (λ path. i ∷ path) ps) ≡ map (λ path. (before ++ i ∷ []) ++ path) ps
map_longer before i [] = refl
map_longer before i (p ∷ ps) =
    ap (λ q. q ∷ map (λ path. before ++ path) (map (λ path. i ∷ path) ps)) (sym (append_assoc before (i ∷ []) p)) ∙ ap (λ m. ((before ++ i ∷ []) ++ p) ∷ m) (map_longer before i ps)

-- one argument more
so_far-step : (before : List ℕ) (ts : List FlatTerm) (i : ℕ) (t : FlatTerm) → i < length ts → t ≡ get_or ts i t → paths_so_far before ts (i + 1) ≡ paths_so_far before ts i ++ paths_after (before ++ i ∷ []) t
so_far-step before ts i t within is =
    let more : take (i + 1) ts ≡ take i ts ++ t ∷ [] = take_more ts i t within ∙ ap (λ u. take i ts ++ u ∷ []) (sym is) in
    let long = length-take i ts in
    let at : 0 + length (take i ts) ≡ i = omega arith in
    let from = paths_from 0 (fpack (take i ts)) in
    let pushed : paths_from 0 (fpack (take (i + 1) ts)) ≡ from ++ map (λ path. i ∷ path) (paths t) =
    ap (λ l. paths_from 0 (fpack l)) more ∙ paths_from-push 0 (take i ts) t ∙ ap (λ m. from ++ map (λ path. m ∷ path) (paths t)) at in
    ap (λ m. map (λ path. before ++ path) ([] ∷ m)) pushed
    ∙ map-append (λ path. before ++ path) ([] ∷ from) (map (λ path. i ∷ path) (paths t))
    ∙ ap (λ m. paths_so_far before ts i ++ m) (map_longer before i (paths t))

pub paths-step : (before longer : List ℕ) (list now next : List (List ℕ)) (ts : List FlatTerm) (i : ℕ) (t : FlatTerm) → longer ≡ before ++ i ∷ [] → i < length ts → t ≡ get_or ts i t →
    now ≡ list ++ paths_so_far before ts i → next ≡ now ++ paths_after longer t → next ≡ list ++ paths_so_far before ts (i + 1)
paths-step before longer list now next ts i t long within is e f =
    f
    ∙ ap (λ l. now ++ paths_after l t) long
    ∙ ap (λ m. m ++ paths_after (before ++ i ∷ []) t) e
    ∙ append_assoc list (paths_so_far before ts i) (paths_after (before ++ i ∷ []) t)
    ∙ ap (λ m. list ++ m) (sym (so_far-step before ts i t within is))

-- a form without a head has no path, and else that to itself and those through its arguments
pub no_paths : (t : FlatTerm) (before : List ℕ) (list : List (List ℕ)) → head_of t ≡ None → list ≡ list ++ paths_after before t
no_paths (fvar x) before list e = sym (append-nil list)
no_paths (fapp f joined ts) before list e = cc

paths_headed : (t : FlatTerm) (f : OpId) → head_of t ≡ Some f → paths t ≡ [] ∷ paths_from 0 (fpack (args_of t))
paths_headed (fvar x) f e = cc
paths_headed (fapp g joined ts) f e = ap (λ us. [] ∷ paths_from 0 us) (sym (fpack-funpack ts))

pub paths-end : (before : List ℕ) (list all : List (List ℕ)) (t : FlatTerm) (f : OpId) (ts : List FlatTerm) (i : ℕ) → head_of t ≡ Some f → ts ≡ args_of t → length ts ≤ i → all ≡ list ++ paths_so_far before ts i → all ≡ list ++ paths_after before t
paths-end before list all t f ts i head args end e =
    e
    ∙ ap (λ l. list ++ map (λ path. before ++ path) ([] ∷ paths_from 0 (fpack l))) (take_all i ts end ∙ args)
    ∙ ap (λ l. list ++ map (λ path. before ++ path) l) (sym (paths_headed t f head))

pub after_nothing : (t : FlatTerm) (all : List (List ℕ)) → all ≡ [] ++ paths_after [] t → all ≡ paths t
after_nothing t all e = e ∙ same (paths t)
  where
    same : (ps : List (List ℕ)) → map (λ (path : List ℕ). [] ++ path) ps ≡ ps
    same [] = refl
    same (p ∷ ps) = ap (λ m. p ∷ m) (same ps)

-- a path leads on through the argument that it takes
pub leads_on : (path : List ℕ) (i n : ℕ) (at u : FlatTerm) (ts : List FlatTerm) → i < length path → ts ≡ args_of at → get_or path i n < length ts → u ≡ get_or ts (get_or path i n) u →
    (x : FlatTerm) → LeadsTo (drop i path) at x ↔ LeadsTo (drop (i + 1) path) u x
leads_on path i n at u ts within args below is x =
    let split = drop_more path i n within in
    let taken : slice_get (args_of at) (get_or path i n) ≡ Some u = subst (λ l. slice_get l (get_or path i n) ≡ Some u) args (slice_get_read ts (length ts) (get_or path i n) u refl below is) in (
      λ h.
          let k = subst (λ p. LeadsTo p at x) split h in
          subst (λ z. LeadsTo (drop (i + 1) path) z x) (same_item k.0 u (sym k.1 ∙ taken)) k.2,
      λ h. subst (λ p. LeadsTo p at x) (sym split) (u, taken, h),
    )

-- and to no form where there is no such argument
pub leads_nowhere : (path : List ℕ) (i n : ℕ) (at : FlatTerm) (ts : List FlatTerm) → i < length path → ts ≡ args_of at → length ts ≤ get_or path i n → (x : FlatTerm) → LeadsTo (drop i path) at x → ⊥
leads_nowhere path i n at ts within args outside x h =
    let k = subst (λ p. LeadsTo p at x) (drop_more path i n within) h in
    let below = slice_get_within (args_of at) (get_or path i n) k.0 k.1 in
    let long = ap length args in
    absurd (omega arith)

pub leads_here : (path : List ℕ) (i : ℕ) (at : FlatTerm) → length path ≤ i → LeadsTo (drop i path) at at
leads_here path i at end = subst (λ p. LeadsTo p at at) (sym (drop_all i path end)) refl

-- a form stands where a path leads to it
stands_among : (at u : FlatTerm) → IsReplaced at at u u → (ts : FlatTerms) (i : ℕ) → slice_get (funpack ts) i ≡ Some u → IsReplacedAmong at at ts ts
stands_among at u r fnone i e = cc
stands_among at u r (fmore t ts) zero e =
    let same : t ≡ u = same_item t u e in
    subst (λ z. IsReplacedAmong at at (fmore z ts) (fmore z ts)) (sym same) (first r)
stands_among at u r (fmore t ts) (suc i) e = later (stands_among at u r ts i e)

pub stands_at : (path : List ℕ) (t at : FlatTerm) → LeadsTo path t at → IsReplaced at at t t
stands_at [] t at h = subst (λ z. IsReplaced at at z z) (sym h) here
stands_at (i ∷ path) (fvar x) at h = let e = h.1 in cc
stands_at (i ∷ path) (fapp f joined ts) at h = inside (stands_among at h.0 (stands_at path h.0 at h.2) ts i h.1)
