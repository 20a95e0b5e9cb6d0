-- The index of a key is the place of its text.
use Rattle.std.proofs.Common.{sym, ap, ◌∙◌}
use Rattle.std.specs.Str.{bytes_eq}
use Rattle.std.proofs.lemmas.Iterator.Adapters.{position_from-zero}
use Rattle.fvn_syntax.specs.Texts.{place}
use Rattle.fvn_syntax.proofs.TextLemmas.{position-map, bytes_in}
use Rattle.fvn_syntax.proofs.texts.Texts.place.Goals as goal

pub returns : goal.returns
returns c =
    c.get_index_of.ensures.index
    ∙ position_from-zero (λ v. bytes_eq c.args.text.now (bytes_in v)) c.self.inside.set.keys
    ∙ sym (position-map (bytes_eq c.args.text.now) bytes_in 0 c.self.inside.set.keys)
    ∙ ap (λ ts. place ts c.args.text.now) c.self.view_is
