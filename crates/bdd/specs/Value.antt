-- The value of a rule set at a setting of its options (Bryant 1986): high is followed where the option is
-- on and low where it is off, until entry 0 or 1.
use Rattle.std.specs.Prelude.{ℕ, zero, suc, ◌<◌, Bool, cond, ◌≡◌, eqb}
use Rattle.bdd.specs.Array.{Runs, var_of, low_link_of, high_link_of, root}

-- which options are on
abbrev pub Setting : Type 0
Setting = ℕ → Bool

-- a Boolean function of settings
abbrev pub Function : Type 0
Function = Setting → Bool

-- the link of entry i that a setting chooses
unfoldable pub chosen : Runs → Setting → ℕ → ℕ
chosen a σ i = cond (σ (var_of a i)) (high_link_of a i) (low_link_of a i)

-- where k chosen links lead from entry i
unfoldable pub follow : Runs → Setting → ℕ → ℕ → ℕ
follow a σ zero i = i
follow a σ (suc k) i = follow a σ k (chosen a σ i)

-- links lead to earlier entries, and entries 0 and 1 link to themselves: i links from entry i end at 0 or 1
unfoldable pub value_at : Runs → ℕ → Function
value_at a i σ = eqb (follow a σ i i) 1

unfoldable pub value : Runs → Function
value a = value_at a (root a)

-- the setting with option k put on (true) or off (false)
unfoldable pub put : ℕ → Bool → Setting → Setting
put k b σ i = cond (eqb i k) b (σ i)

-- the function with option k put so
abbrev pub with_option : ℕ → Bool → Function → Function
with_option k b f σ = f (put k b σ)

-- a function of n options: settings that agree on these give the same value
abbrev pub Of : ℕ → Function → Type 0
Of n f = (σ τ : Setting) → ((i : ℕ) → i < n → σ i ≡ τ i) → f σ ≡ f τ
