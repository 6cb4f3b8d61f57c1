-- `compare::value_at` meets its contract.
use Rattle.std.proofs.Common.{sym, ◌∙◌}
use Rattle.checks.proofs.Verdict.{told_ordered, told_not_ordered, told_options}
use Rattle.compare.proofs.Values.{setting_length, valued_unordered, valued_unset, valued_is}
use Rattle.compare.proofs.value_at.Goals as goal

pub returns-in_default : goal.returns-in_default
returns-in_default c = valued_unordered _ _ (told_not_ordered _ c.check_ordered.ensures c.in_default.is)

pub returns-then-not-is_setting : goal.returns-then-not-is_setting
returns-then-not-is_setting c = valued_unset _ _ _ (told_ordered _ _ c.check_ordered.ensures c.in-Some.is) (told_options _ _ c.check_ordered.ensures c.in-Some.is) (sym c.is_setting.ensures ∙ c.if-not-is_setting.true)

pub follow-requires-clause-setting_len : goal.follow-requires-clause-setting_len
follow-requires-clause-setting_len c = setting_length _ _ (sym c.is_setting.ensures ∙ c.if-not-is_setting.false) ∙ told_options _ _ c.check_ordered.ensures c.in-Some.is

pub returns : goal.returns
returns c = valued_is _ _ _ _ (told_ordered _ _ c.check_ordered.ensures c.in-Some.is) (told_options _ _ c.check_ordered.ensures c.in-Some.is) (sym c.is_setting.ensures ∙ c.if-not-is_setting.false) c.follow.ensures
