-- An instance of a sum has at least as many arguments.
use Rattle.std.proofs.Common.{◌≡◌, ◌≤◌, [], ◌∷◌, map, length, sym, ap, ◌∙◌, arith}
use Rattle.std.proofs.lemmas.List.{length-map}
use Rattle.fvn_terms.specs.declared.declarations.Declarations.{Declarations}
use Rattle.fvn_forms.specs.Flat.{FlatTerm}
use Rattle.fvn_forms.specs.InOrder.{sort}
use Rattle.fvn_forms.proofs.InOrder.{length_sort}
use Rattle.fvn_forms.proofs.Eval.{canon_respects, canon_plain}
use Rattle.fvn_flat.specs.Forms.{args_of}
use Rattle.fvn_flat.specs.Fits.{Fits}
use Rattle.fvn_match.specs.Matching.{HasNoMatcher}
use Rattle.fvn_places.proofs.ClashFacts.{many_parts}
use Rattle.fvn_places.proofs.SumClashes.{instance, summands, instances_settled, args_of_instance}
use Rattle.fvn_rewrite.specs.inner.Short.{LacksArguments}

pub short_has_no_matcher : (d : Declarations) (p t : FlatTerm) → Fits d p → Fits d t → LacksArguments d p t → HasNoMatcher d (p ∷ []) (t ∷ [])
short_has_no_matcher d p t fp ft h = λ s m.
    let f = h.operator in
    let is : instance d s p ≡ t = canon_respects d m.1.0 ∙ canon_plain d t ft.flat in
    let args : args_of t ≡ sort (summands d f s (args_of p)) =
    ap args_of (sym is) ∙ args_of_instance d f h.associative h.lasting p fp.flat h.heads h.are_two s in
    let many = many_parts d f h.lasting (map (instance d s) (args_of p)) (instances_settled d s (args_of p)) in
    let long = length-map (args_of p) (instance d s) in
    let sorted = length_sort (summands d f s (args_of p)) in
    let same = ap length args in
    let few = h.few in
    omega (arith, same, sorted, many, long, few)
