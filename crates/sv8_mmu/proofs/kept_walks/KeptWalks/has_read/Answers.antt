use Rattle.std.proofs.Common.{◌∙◌, sym, true≢false}
use Rattle.sv8_mmu.proofs.Keeping.{none_reads_page}
use Rattle.sv8_mmu.proofs.kept_walks.KeptWalks.has_read.Goals as goal
use Rattle.sv8_mmu.proofs.kept_walks.KeptWalks.has_read.Goals.{then-is_reader, else-is_reader, then-is_reader-2, else-is_reader-2}

pub returns-else-is_reader-3 : goal.returns-else-is_reader-3
returns-else-is_reader-3 c = λ unread. elim c.if-is_reader-2.branch [
  | then-is_reader-2 w ↦ absurd (true≢false (sym w.if-is_reader-2.true ∙ sym w.value-is ∙ c.if-is_reader-3.false))
  | else-is_reader-2 w ↦ elim c.if-is_reader.branch [
    | then-is_reader v ↦ absurd (true≢false (sym v.if-is_reader.true ∙ sym v.value-is ∙ w.if-is_reader-2.false))
    | else-is_reader v ↦
        none_reads_page c.self.inside.fetch_memo c.self.inside.load_memo c.self.inside.store_memo c.self.inside.cache c.args.self.now c.self.view_is c.args.page (c.is_reader.ensures v.if-is_reader.false)
        (v.is_reader-else-is_reader.ensures (sym v.value-is ∙ w.if-is_reader-2.false)) (w.is_reader-else-is_reader-2.ensures (sym w.value-is ∙ c.if-is_reader-3.false)) (c.has_reader.ensures unread)
  ]
]
