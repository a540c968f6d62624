-- A batch that workers share.
use Rattle.bohm_board.specs.declared.batch.Batch.{Batch}
use Rattle.bohm_board.specs.Passes.{batch_of}
use Rattle.bohm_apply.specs.declared.shared_batch.SharedBatch.{SharedBatch}

abbrev pub batch_shared : SharedBatch → Batch
batch_shared s = batch_of s.board.value
