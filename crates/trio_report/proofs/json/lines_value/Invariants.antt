use Rattle.std.proofs.Common.{◌≡◌, map, take}
use Rattle.serde_json.specs.View.{view}
use Rattle.trio_report.specs.Json.{json_of_line}
use Rattle.trio_report.proofs.json.lines_value.Given as goal

abbrev pub invariant-loop-line : goal.invariant-loop-line
invariant-loop-line l = map view l.files.items ≡ map json_of_line (take l.line-index l.lines)
