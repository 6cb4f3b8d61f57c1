-- `compare::is_setting` meets its contract: the count, and what is said of each number.
use Rattle.std.proofs.Common.{rules, ◌≤◌, ◌↔◌, ◌∙◌, IsTrue, EachIndex, get_or, ne_eqb}
use Rattle.compare.proofs.Values.{setting_short, setting_each}
use Rattle.compare.proofs.is_setting.Goals as goal

pub returns-then-setting-n : goal.returns-then-setting-n
returns-then-setting-n c =
    let each : IsTrue c.all.result ↔ EachIndex c.args.setting.now (λ k. get_or c.args.setting.now k 0 ≤ 1) = search rules in
    setting_each c.args.n c.args.setting.now c.if-setting-n.true each

pub returns-else-setting-n : goal.returns-else-setting-n
returns-else-setting-n c = ne_eqb _ _ c.if-setting-n.false ∙ setting_short _ _ c.if-setting-n.false
