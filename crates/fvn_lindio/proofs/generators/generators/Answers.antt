-- Known vectors and units of new columns are what the row is searched with.
use Rattle.std.proofs.Common.{◌≡◌, length, refl}
use Rattle.std.proofs.lemmas.List.Elements.{All-map}
use Rattle.fvn_lindio.specs.inner.Generators.{vectors_in}
use Rattle.fvn_lindio.specs.Systems.{coefficients_of}
use Rattle.fvn_lindio.proofs.GeneratorLemmas.{generates_from}
use Rattle.fvn_lindio.proofs.generators.generators.Goals as goal

pub returns-clause-generates : goal.returns-clause-generates
returns-clause-generates c =
    let row = c.args.row.now in
    generates_from (length row) (coefficients_of c.args.before.now) row (vectors_in c.args.known.now) c.in_ok-points.points.items c.add_units.new.points.items refl
    (All-map (λ r. length r ≡ length row) (λ r. r.coefficients) c.args.before.now c.requires.before) c.requires.known c.requires.narrow c.in_ok-points.ensures c.in_ok-add_units.ensures
