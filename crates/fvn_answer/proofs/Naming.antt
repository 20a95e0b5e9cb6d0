-- The names of a module that was read are readable.
use Rattle.std.proofs.Common.{◌≡◌, Bool, true, false, [], ◌∷◌, get_or, None, refl}
use Rattle.std.specs.Prelude.{◌||◌, ◌==◌}
use Rattle.fvn_syntax.specs.Pieces.{Text}
use Rattle.fvn_syntax.specs.Names.{last_colon}
use Rattle.fvn_module_syntax.specs.Words.{has_colon}
use Rattle.fvn_module.specs.Contents.{Contents}
use Rattle.fvn_module.specs.Readable.{IsReadable}
use Rattle.fvn_answer.specs.inner.Readable.{AreReadable}

both-false : (a b : Bool) → (a || b) ≡ false → (a ≡ false) × (b ≡ false)
both-false true b e = cc
both-false false b e = (refl, e)

no-last : (w : Text) → has_colon w ≡ false → last_colon w ≡ None
no-last [] e = refl
no-last (b ∷ w) e =
    let both = both-false (b == 58) (has_colon w) e in
    rw (both.0, no-last w both.1) refl

pub readable : (m : Contents) → IsReadable m → AreReadable m.signature m.names
readable m r = record {
  sort_names = r.sort_names;
  op_names = r.op_names;
  sort_words = λ i d l. (r.sort_texts i d l).word;
  op_words = r.op_texts;
  no_colons = λ i d l. no-last (get_or m.names.sorts i d) (r.sort_texts i d l).no_colon;
  distinct_sorts = r.distinct_sorts;
  distinct_ops = r.distinct_ops;
  constants = λ f w e n. (r.constants f w e n).no_sort;
}
