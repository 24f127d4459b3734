-- How deep lists and typed parameters stand one in another (this project's own limit on parameters of ISO 10303-21).
use Rattle.std.specs.Prelude.{ℕ, suc, max, ◌≤◌}
use Rattle.p21_spec_exchange.specs.Parameter.{Param, list, typed, Params, no_params, param}

-- each list and each typed parameter adds one; the parentheses of a record do not count
abbrev mutual
  pub depth : Param → ℕ
  depth (list ps) = suc (params_depth ps)
  depth (typed key p) = suc (depth p)
  depth other = 0

  pub params_depth : Params → ℕ
  params_depth no_params = 0
  params_depth (param p ps) = max (depth p) (params_depth ps)

-- at most 64 deep
abbrev pub IsShallow : Params → Type 0
IsShallow ps = params_depth ps ≤ 64
