-- What a parser reads from where it stands.
use Rattle.ad_tree.specs.Tree.{Tree}
use Rattle.ad_parse.specs.declared.parse.Parser.{Parser}
use Rattle.ad_parse.specs.Reader.{Read, operand_at, cond_at}

abbrev pub condition_of : Parser → Read Tree
condition_of p = cond_at p.end p.left

abbrev pub operand_of : Parser → Read Tree
operand_of p = operand_at p.end p.left
