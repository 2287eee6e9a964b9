use Rattle.std.proofs.Common.{◌∷◌, [], map, refl, ap, ◌∙◌}
use Rattle.std.proofs.lemmas.List.{map-append}
use Rattle.trio_survey.specs.Stored.{core_in}
use Rattle.trio_report.specs.inner.Nodes.{node_seen}
use Rattle.trio_report.proofs.Trees.{begun, visited_at_home}
use Rattle.trio_report.proofs.tree.tree_lines.Goals as goal

pub loop-next-init : goal.loop-next-init
loop-next-init c =
    let core = core_in c.args.superblock.now c.args.home.now.pages in
    let one = ap (map node_seen) (rw c.new-pending.ensures.items at c.in_ok-push.ensures.items) in
    let b = begun core _ _ c.new-lines.result.items one c.new-lines.ensures.items refl refl c.root_file.ensures in
    record { same = refl; reached = b.reached; tree = b.lines }

pub loop-next-smaller : goal.loop-next-smaller
loop-next-smaller c =
    let popped = ap (map node_seen) c.in-Some.ensures.items ∙ map-append node_seen c.pop.new.self.items (c.in-Some.next ∷ []) in
    let visited = rw c.in_ok-read.ensures.file at c.in_ok-visit.ensures in
    (visited_at_home c.args.superblock.now c.args.home.now.pages _ _ _ _ _ _ _ c.loop-next.invariant.same popped c.loop-next.invariant.reached visited).fewer

pub loop-next-preserved : goal.loop-next-preserved
loop-next-preserved c =
    let popped = ap (map node_seen) c.in-Some.ensures.items ∙ map-append node_seen c.pop.new.self.items (c.in-Some.next ∷ []) in
    let visited = rw c.in_ok-read.ensures.file at c.in_ok-visit.ensures in
    let step = visited_at_home c.args.superblock.now c.args.home.now.pages _ _ _ _ _ _ _ c.loop-next.invariant.same popped c.loop-next.invariant.reached visited in
    record {
      same = c.read_file.ensures.pages ∙ c.loop-next.invariant.same;
      reached = step.reached;
      tree = step.lines ∙ c.loop-next.invariant.tree;
    }
