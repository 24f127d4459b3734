-- Parameters one by one, and as a parameter list.
use Rattle.std.proofs.Common.{◌≡◌, List, [], ◌∷◌, refl, ap}
use Rattle.p21_spec_exchange.specs.Parameter.{Param, Params, no_params, param, listed, params_of}

pub params-listed : (ps : Params) → params_of (listed ps) ≡ ps
params-listed no_params = refl
params-listed (param p ps) = ap (param p) (params-listed ps)

pub listed-params : (ps : List Param) → listed (params_of ps) ≡ ps
listed-params [] = refl
listed-params (p ∷ ps) = ap (λ qs. p ∷ qs) (listed-params ps)
