-- What the program's own artifacts mean.
use Rattle.jb_artifacts.specs.Meaning.{ArtifactsMeaning}
use Rattle.jb_artifacts.specs.declared.packed_artifacts.PackedArtifacts.{PackedArtifacts}
use Rattle.jb_artifacts.specs.declared.prefix_processor.PrefixProcessor.{PrefixProcessor}
use Rattle.jb_artifacts.specs.declared.list_writer.ListWriter.{ListWriter}
use Rattle.jb_artifacts.specs.declared.count_collector.CountCollector.{CountCollector}
use Rattle.jb_artifacts.specs.contracts.prefix_processor.PrefixProcessorItemProcessor.TheImpl as processor_of
use Rattle.jb_artifacts.specs.contracts.list_writer.ListWriterItemWriter.TheImpl as writer_of
use Rattle.jb_artifacts.specs.contracts.count_collector.CountCollectorCollector.TheImpl as collector_of
use Rattle.jb_program.specs.declared.run.shared_reader.SharedReader.{SharedReader}
use Rattle.jb_program.specs.contracts.run.shared_reader.SharedReaderItemReader.TheImpl as reader_of

abbrev pub own_artifacts : PackedArtifacts SharedReader PrefixProcessor ListWriter CountCollector → ArtifactsMeaning
own_artifacts own = record {
  reader = (reader_of.ghosts).reader own.inner.reader;
  processor = (processor_of.ghosts).processor own.inner.processor;
  writer = (writer_of.ghosts).writer own.inner.writer;
  collector = (collector_of.ghosts).collected own.inner.collector;
}
