use Rattle.trio_image.proofs.nodes.content.Goals as goal

pub returns-in-Some-clause-content : goal.returns-in-Some-clause-content
returns-in-Some-clause-content c = rw (← c.is_directory.ensures, c.if-is_directory.false, ← c.body_read.ensures, c.in-Some.is) c.body_content.ensures.content

pub returns-in-None-clause-content : goal.returns-in-None-clause-content
returns-in-None-clause-content c = rw (← c.is_directory.ensures, c.if-is_directory.false, ← c.body_read.ensures, c.in-None.is) c.new-in-None.ensures
