-- Opens every definition of `operate` and of what it leans on, for examples that compute. Assumes nothing.
use Rattle.utf8.proofs.Opened.{opened as opened-utf8}
use Rattle.operate.specs.Operate.{latin, chinese, code_from, operate_of, operate_alone, known, operate_name}

unfoldable pub opened : Unit {0}
unfolding opened-utf8 latin chinese code_from operate_of operate_alone known operate_name
opened = tt
