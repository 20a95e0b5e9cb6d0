-- A module is good, and harmless equations are admissible.
use Rattle.fvn_module_loading.proofs.laws.loaded_modules_are_good.Goals as goal

pub returns : goal.returns
returns c = λ bytes m h.
    let g = c.modules_are_good.ensures bytes m h.is_module in
    (g.0, g.1, g.2, c.harmless_equations_are_admissible.ensures m.signature m.equations g.0.equations h.harmless)
