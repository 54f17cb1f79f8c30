-- `words::put_byte_word_at` meets its contract. One word for each wording.
-- Assumes nothing.
use Rattle.words.proofs.put_byte_word_at.Goals as goal

pub returns-in-Byte : goal.returns-in-Byte
returns-in-Byte c = rw c.in-Byte.is c.put_at.ensures

pub returns-in-ByteBoolean : goal.returns-in-ByteBoolean
returns-in-ByteBoolean c = rw c.in-ByteBoolean.is c.put_at-in-ByteBoolean.ensures
